use Rattle.std.proofs.Common.{rules, ◌≡◌, ◌∙◌, ℕ, List, length, ap, sym, subst, refl, arith}
use Rattle.std.specs.Prelude.{vec_capacity, IfErr}
use Rattle.std.proofs.lemmas.Result.{IfErr-weaker}
use Rattle.interval_pool.specs.declared.cells.Cell.{Cell}
use Rattle.interval_pool.specs.declared.cells.Head.{Head}
use Rattle.interval_pool.specs.declared.fault.PoolFault.TheVariants.{Memory}
use Rattle.interval_pool.specs.Cells.{head_at}
use Rattle.interval_pool.specs.Values.{PoolValue, IsFullWith}
use Rattle.interval_pool.proofs.pool.Pool.reserve.Goals as goal
use Rattle.interval_pool.proofs.Listing.{never_full}
use Rattle.interval_pool.proofs.Parting.{partition}

pub returns-then-more-left-clause-full : goal.returns-then-more-left-clause-full
returns-then-more-left-clause-full c =
    let cells : List Cell = c.self.inside.cells.items in
    let heads : List Head = c.self.inside.heads.items in
    let capacity : ℕ = vec_capacity c.self.inside.cells in
    let P : PoolValue → Type 0 = λ p. IsFullWith p c.args.more in
    let count = (partition cells heads capacity c.self.invariant).count in
    let free = c.self.invariant.whole.count 0 in
    let len = c.count-free.ensures ∙ ap (λ hs. (head_at hs 0).len) c.deref.ensures.value in
    let size = ap length c.as_slice.ensures.value in
    let more = c.if-more-left.true in
    let small = c.self.invariant.small in
    (λ e. subst P c.self.view_is (omega (count, free, len, size, more, small, arith)), λ full. refl)

pub returns-in_err-reserve-clause-full : goal.returns-in_err-reserve-clause-full
returns-in_err-reserve-clause-full c =
    let cells : List Cell = c.self.inside.cells.items in
    let heads : List Head = c.self.inside.heads.items in
    let capacity : ℕ = vec_capacity c.self.inside.cells in
    let P : PoolValue → Type 0 = λ p. IsFullWith p c.args.more in
    let count = (partition cells heads capacity c.self.invariant).count in
    let free = c.self.invariant.whole.count 0 in
    let len = c.count-free.ensures ∙ ap (λ hs. (head_at hs 0).len) c.deref.ensures.value in
    let size = ap length c.as_slice.ensures.value in
    let more = c.if-more-left.false in
    let small = c.self.invariant.small in
    let never : IsFullWith c.args.self.now c.args.more → ⊥ = λ full. let f = subst P (sym c.self.view_is) full in omega (count, free, len, size, more, small, f, arith) in
    let memory : IfErr c.from_residual.result (λ fault. fault ≡ Memory) = search rules in
    IfErr-weaker c.from_residual.result _ _ (λ fault e. never_full fault e never) memory
