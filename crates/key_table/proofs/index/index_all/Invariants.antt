use Rattle.std.proofs.Common.{◌≡◌, length}
use Rattle.key_table.specs.Reached.{AreReachedBelow, key_hash}
use Rattle.key_table.proofs.index.index_all.Given as goal

abbrev pub invariant-loop-place : goal.invariant-loop-place
invariant-loop-place g l = (length l.slots ≡ length l.fn.slots) × AreReachedBelow g.K.Ord.cmp (λ k. key_hash (g.K.Hash.hash_input k)) l.place l.fn.entries l.slots l.strays
