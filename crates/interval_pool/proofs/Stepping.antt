-- Room that was reserved lasts.
use Rattle.std.proofs.Common.{ℕ, ◌+◌, ◌-◌, ◌<◌, ◌≤◌, List, [], ◌∷◌, length, ap, ⊎_elim, arith}
use Rattle.interval_pool.specs.Values.{PoolValue, HasNoRoom, IsStep, AreSteps, last_of}

step_room : (p q : PoolValue) → IsStep p q → length p.free + p.room ≤ length q.free + q.room + 1
step_room p q step = ⊎_elim (λ added. let room = added.room in let few = added.few in omega (room, few, arith)) (λ cut. let room = cut.room in let few = cut.few in omega (room, few, arith)) step.1.1

pub lasts : (n : ℕ) (p : PoolValue) (steps : List PoolValue) → n ≤ length p.free + p.room → AreSteps p steps → length steps < n → HasNoRoom (last_of p steps) → ⊥
lasts n p [] room steps less needs = let none = ap length needs.free in let full = needs.room in omega (room, less, none, full, arith)
lasts n p (q ∷ qs) room steps less needs =
    let one = step_room p q steps.0 in
    lasts (n - 1) q qs (omega (room, one, arith)) steps.1 (omega (less, arith)) needs
