use Rattle.std.proofs.Common.{◌≡◌, ◌++◌, drop}
use Rattle.binlog_rows.specs.Images.{present_from}
use Rattle.binlog_rows.proofs.images.present.Given as goal

abbrev pub invariant-loop-i : goal.invariant-loop-i
invariant-loop-i l = l.found.items ++ present_from l.bits l.i (drop l.i l.columns) ≡ present_from l.bits 0 l.columns
