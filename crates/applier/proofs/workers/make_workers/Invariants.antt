use Rattle.std.proofs.Common.{◌≡◌, ◌≤◌, ◌+◌, length, map, vec_len}
use Rattle.std.specs.Vec.{vec_capacity}
use Rattle.applier.proofs.workers.make_workers.Given as goal

abbrev pub invariant-loop-pass : goal.invariant-loop-pass
invariant-loop-pass g l =
    (map (λ w. w.pass) l.workers.items ≡ l.yielded) × (vec_len l.workers ≡ length l.yielded) × (vec_len l.fn.passes ≤ vec_capacity l.workers)
    × (length l.hands.items + length l.yielded ≡ length l.fn.passes.items)
