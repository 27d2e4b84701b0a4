use Rattle.std.proofs.Common.{length, ◌+◌, false}
use Rattle.gtid_set.proofs.CompareLemmas.{IsPassing}
use Rattle.gtid_set.proofs.combine.are_apart.Given as goal

abbrev pub invariant-loop-id : goal.invariant-loop-id
invariant-loop-id l = IsPassing false l.fn.left l.fn.right l.left l.right

abbrev pub decreases-loop-id : goal.decreases-loop-id
decreases-loop-id l = length l.left + length l.right
