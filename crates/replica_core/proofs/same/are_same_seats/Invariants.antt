use Rattle.std.proofs.Common.{length, ◌≡◌}
use Rattle.replica_core.proofs.same.are_same_seats.Given as goal

abbrev pub invariant-loop-spot : goal.invariant-loop-spot
invariant-loop-spot l = record {
  so_far : l.left ≡ l.right → l.fn.left ≡ l.fn.right;
  back : l.fn.left ≡ l.fn.right → l.left ≡ l.right;
}

abbrev pub decreases-loop-spot : goal.decreases-loop-spot
decreases-loop-spot l = length l.left
