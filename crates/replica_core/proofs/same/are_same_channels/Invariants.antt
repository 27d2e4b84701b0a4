use Rattle.std.proofs.Common.{length, ◌≡◌}
use Rattle.replica_core.proofs.same.are_same_channels.Given as goal

abbrev pub invariant-loop-channel : goal.invariant-loop-channel
invariant-loop-channel l = record {
  so_far : l.left ≡ l.right → l.fn.left ≡ l.fn.right;
  back : l.fn.left ≡ l.fn.right → l.left ≡ l.right;
}

abbrev pub decreases-loop-channel : goal.decreases-loop-channel
decreases-loop-channel l = length l.left
