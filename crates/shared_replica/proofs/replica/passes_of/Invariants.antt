use Rattle.std.proofs.Common.{◌≡◌, ℕ, ◌+◌, ◌<◌, ◌≤◌, vec_len, slice_index_or, length}
use Rattle.std.specs.Vec.{vec_capacity}
use Rattle.shared_replica.specs.Passes.{PassValue, fresh}
use Rattle.shared_replica.proofs.replica.passes_of.Given as goal

-- a fresh pass for each share so far
abbrev pub invariant-loop-share : goal.invariant-loop-share
invariant-loop-share g l =
    (vec_len l.passes ≡ length l.yielded) × (vec_len l.fn.shares ≤ vec_capacity l.passes)
    × ((i : ℕ) (d : PassValue) → i < length l.yielded → slice_index_or l.passes.items i d ≡ fresh (i + 1))
