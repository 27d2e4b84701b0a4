use Rattle.std.proofs.Common.{◌≡◌, option_map, drop}
use Rattle.binlog_rows.specs.Images.{values_from}
use Rattle.binlog_rows.specs.Reading.{values_behind}
use Rattle.binlog_rows.proofs.reading.read_values.Given as goal

abbrev pub invariant-loop-i : goal.invariant-loop-i
invariant-loop-i l =
    option_map (values_behind l.values.items (drop l.i l.columns)) (values_from l.nulls l.i (drop l.i l.columns) l.rest)
    ≡ option_map (values_behind l.fn.values.items l.columns) (values_from l.nulls 0 l.columns l.bytes)
