use Rattle.std.proofs.Common.{◌≡◌, ◌≤◌, length, map, vec_len}
use Rattle.std.specs.Vec.{vec_capacity}
use Rattle.applier.proofs.workers.into_passes.Given as goal

abbrev pub invariant-loop-worker : goal.invariant-loop-worker
invariant-loop-worker g l =
    (l.passes.items ≡ map (λ w. w.pass) l.yielded) × (vec_len l.passes ≡ length l.yielded) × (vec_len l.fn.workers ≤ vec_capacity l.passes)
