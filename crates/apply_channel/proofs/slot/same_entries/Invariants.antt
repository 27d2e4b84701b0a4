use Rattle.std.proofs.Common.{length, ◌≡◌}
use Rattle.apply_channel.specs.Kept.{entries_of}
use Rattle.apply_channel.proofs.slot.same_entries.Given as goal

abbrev pub invariant-loop-slot : goal.invariant-loop-slot
invariant-loop-slot l = record {
  so_far : entries_of l.left ≡ entries_of l.right → entries_of l.fn.left ≡ entries_of l.fn.right;
  back : entries_of l.fn.left ≡ entries_of l.fn.right → entries_of l.left ≡ entries_of l.right;
}

abbrev pub decreases-loop-slot : goal.decreases-loop-slot
decreases-loop-slot l = length l.left
