use Rattle.std.proofs.Common.{length}
use Rattle.binlog_bundle.specs.Lines.{IsOther}
use Rattle.binlog_bundle.proofs.Cutting.{HasPassed}
use Rattle.binlog_bundle.proofs.lines.cut_own.Given as goal

abbrev pub invariant-loop-line : goal.invariant-loop-line
invariant-loop-line l = HasPassed IsOther l.text l.left

abbrev pub decreases-loop-line : goal.decreases-loop-line
decreases-loop-line l = length l.left
