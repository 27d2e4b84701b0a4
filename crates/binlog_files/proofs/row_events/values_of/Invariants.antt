use Rattle.std.proofs.Common.{◌≡◌, ◌++◌, drop}
use Rattle.std.specs.List.{flat_map}
use Rattle.binlog_files.specs.Rows.{held}
use Rattle.binlog_files.proofs.row_events.values_of.Given as goal

abbrev pub invariant-loop-value : goal.invariant-loop-value
invariant-loop-value l = l.values.items ++ flat_map held (drop l.value-index l.image) ≡ flat_map held l.image
