use Rattle.std.proofs.Common.{◌≡◌}
use Rattle.binlog_rows.specs.Reading.{flags_of}
use Rattle.binlog_rows.proofs.reading.flags_of.Given as goal

abbrev pub invariant-loop-i : goal.invariant-loop-i
invariant-loop-i l = l.flags.items ≡ flags_of l.bits l.i
