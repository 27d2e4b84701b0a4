use Rattle.std.proofs.Common.{◌≡◌, drop}
use Rattle.binlog_entries.specs.Limits.{first_long}
use Rattle.binlog_entries.proofs.limits.first_long.Given as goal

abbrev pub invariant-loop-column : goal.invariant-loop-column
invariant-loop-column l = first_long l.column (drop l.column l.image) ≡ first_long 0 l.fn.image
