use Rattle.std.proofs.Common.{length}
use Rattle.binlog_bundle.proofs.Heading.{HasHeadCome}
use Rattle.binlog_bundle.proofs.head.plain_head.Given as goal

abbrev pub invariant-loop-line : goal.invariant-loop-line
invariant-loop-line l = HasHeadCome l.fn.grants l.fn.derivation l.fn.head l.left l.plain.text.items l.plain.passed_over

abbrev pub decreases-loop-line : goal.decreases-loop-line
decreases-loop-line l = length l.left
