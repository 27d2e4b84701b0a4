use Rattle.std.proofs.Common.{length, ◌≡◌}
use Rattle.relay.proofs.are_same_entries.Given as goal

abbrev pub invariant-loop-entry : goal.invariant-loop-entry
invariant-loop-entry l = record {
  so_far : l.left ≡ l.right → l.fn.left ≡ l.fn.right;
  back : l.fn.left ≡ l.fn.right → l.left ≡ l.right;
}

abbrev pub decreases-loop-entry : goal.decreases-loop-entry
decreases-loop-entry l = length l.left
