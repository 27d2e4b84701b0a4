use Rattle.std.proofs.Common.{rules, ◌≡◌, ◌↔◌, ◌∙◌, ℕ, ◌+◌, ◌<◌, true, List, ◌++◌, length, take, drop, ap, sym, subst, arith}
use Rattle.std.specs.Prelude.{vec_capacity}
use Rattle.interval_pool.specs.declared.cells.Cell.{Cell}
use Rattle.interval_pool.specs.declared.cells.Head.{Head}
use Rattle.interval_pool.specs.declared.fault.PoolFault.{PoolFault}
use Rattle.interval_pool.specs.declared.fault.PoolFault.TheVariants.{Full}
use Rattle.interval_pool.specs.declared.interval.Interval.{Interval}
use Rattle.interval_pool.specs.Links.{most_cells}
use Rattle.interval_pool.specs.Cells.{head_at}
use Rattle.interval_pool.specs.Intervals.{AreMerged}
use Rattle.interval_pool.specs.Changes.{spans_of, free_count, Prolonged}
use Rattle.interval_pool.specs.Values.{PoolValue, IsList, IsFullWith, IsPool, value_of, spans, Extended}
use Rattle.interval_pool.proofs.pool.Pool.extend.Goals as goal
use Rattle.interval_pool.proofs.Valued.{seamed, head_is, spans_are, is_not_free}
use Rattle.interval_pool.proofs.Parting.{partition}
use Rattle.interval_pool.proofs.Extending.{extended_pool, extended_list}

pub extend-requires-clause-merged : goal.extend-requires-clause-merged
extend-requires-clause-merged c =
    let cells : List Cell = c.self.inside.cells.items in
    let heads : List Head = c.self.inside.heads.items in
    let capacity : ℕ = vec_capacity c.self.inside.cells in
    let l : ℕ = c.args.list in
    let is : (head_at heads l).is_list ≡ true = head_is cells heads capacity l (subst (λ p. IsList p l) (sym c.self.view_is) c.requires.list) in
    let P : List Interval → Type 0 = λ ss. AreMerged (ss ++ c.args.intervals.now) in
    let same : spans c.args.self.now l ≡ spans_of cells c.deref_mut.result.now c.number-list.result = (
    ap (λ (p : PoolValue). spans p l) (sym c.self.view_is)
    ∙ (spans_are cells heads capacity l c.self.invariant (is_not_free cells heads l c.self.invariant is)
    ∙ (ap (spans_of cells heads) (sym c.number-list.ensures) ∙ ap (λ hs. spans_of cells hs c.number-list.result) (sym c.deref_mut.ensures.value)))
    ) in
    subst P same c.requires.merged

pub invariant_of-self-2 : goal.invariant_of-self-2
invariant_of-self-2 c =
    let cells : List Cell = c.self.inside.cells.items in
    let heads : List Head = c.self.inside.heads.items in
    let capacity : ℕ = vec_capacity c.self.inside.cells in
    let l : ℕ = c.args.list in
    let ss : List Interval = c.args.intervals.now in
    let is : (head_at heads l).is_list ≡ true = head_is cells heads capacity l (subst (λ p. IsList p l) (sym c.self.view_is) c.requires.list) in
    let P : List Head → Type 0 = λ hs. Prolonged cells hs c.number-list.result ss c.extend.new.cells.items c.extend.new.heads in
    let Q : ℕ → Type 0 = λ k. Prolonged cells heads k ss c.extend.new.cells.items c.extend.new.heads in
    let made = subst Q c.number-list.ensures (subst P c.deref_mut.ensures.value c.in_ok-place.ensures.ok) in
    let size : length c.extend.new.heads ≡ c.self.inside.heads.len = (let m = made.keeps.as_many_chains in let a = ap length c.deref_mut.ensures.value in let b = c.deref_mut.ensures.len in omega (m, a, b, arith)) in
    let same : spans c.args.self.now l ≡ spans_of cells heads l = ap (λ (p : PoolValue). spans p l) (sym c.self.view_is) ∙ spans_are cells heads capacity l c.self.invariant (is_not_free cells heads l c.self.invariant is) in
    let R : List Interval → Type 0 = λ us. AreMerged (us ++ ss) in
    subst (λ hs. IsPool c.extend.new.cells.items hs) (sym (seamed c.extend.new.heads heads c.self.inside.heads.len size))
    (extended_pool cells c.extend.new.cells.items heads c.extend.new.heads l ss c.self.invariant is (subst R same c.requires.merged) made)

pub returns-clause-ok : goal.returns-clause-ok
returns-clause-ok c =
    let cells : List Cell = c.self.inside.cells.items in
    let heads : List Head = c.self.inside.heads.items in
    let capacity : ℕ = vec_capacity c.self.inside.cells in
    let capacity' : ℕ = vec_capacity c.extend.new.cells in
    let cells' : List Cell = c.extend.new.cells.items in
    let l : ℕ = c.args.list in
    let ss : List Interval = c.args.intervals.now in
    let is : (head_at heads l).is_list ≡ true = head_is cells heads capacity l (subst (λ p. IsList p l) (sym c.self.view_is) c.requires.list) in
    let P : List Head → Type 0 = λ hs. Prolonged cells hs c.number-list.result ss cells' c.extend.new.heads in
    let Q : ℕ → Type 0 = λ k. Prolonged cells heads k ss cells' c.extend.new.heads in
    let made = subst Q c.number-list.ensures (subst P c.deref_mut.ensures.value c.in_ok-place.ensures.ok) in
    let size : length c.extend.new.heads ≡ c.self.inside.heads.len = (let m = made.keeps.as_many_chains in let a = ap length c.deref_mut.ensures.value in let b = c.deref_mut.ensures.len in omega (m, a, b, arith)) in
    let same : spans c.args.self.now l ≡ spans_of cells heads l = ap (λ (p : PoolValue). spans p l) (sym c.self.view_is) ∙ spans_are cells heads capacity l c.self.invariant (is_not_free cells heads l c.self.invariant is) in
    let R : List Interval → Type 0 = λ us. AreMerged (us ++ ss) in
    let heads' : List Head = take c.self.inside.heads.len (c.extend.new.heads ++ drop (length c.extend.new.heads) heads) in
    let S : List Head → Type 0 = λ hs. Extended (value_of cells heads capacity) l ss (value_of cells' hs capacity') in
    let T : PoolValue → Type 0 = λ p. Extended p l ss (value_of cells' heads' capacity') in
    subst T c.self.view_is (subst S (sym (seamed c.extend.new.heads heads c.self.inside.heads.len size))
    (extended_list cells cells' heads c.extend.new.heads capacity capacity' l ss c.self.invariant is (subst R same c.requires.merged) made c.in_ok-place.ensures.capacity))

pub returns-in_err-place-clause-full : goal.returns-in_err-place-clause-full
returns-in_err-place-clause-full c =
    let cells : List Cell = c.self.inside.cells.items in
    let heads : List Head = c.self.inside.heads.items in
    let capacity : ℕ = vec_capacity c.self.inside.cells in
    let n = length c.args.intervals.now in
    let P : PoolValue → Type 0 = λ p. IsFullWith p n in
    let Q : List Head → Type 0 = λ hs. most_cells + free_count cells hs < length cells + n in
    let count = (partition cells heads capacity c.self.invariant).count in
    let fault : PoolFault = c.in_err-place.field-0.0 in
    let full : fault ≡ Full ↔ IsFullWith c.args.self.now n = (
      λ e. subst P c.self.view_is (let many = subst Q c.deref_mut.ensures.value (c.in_err-place.ensures.full.0 e) in omega (count, many, arith)),
      λ all. c.in_err-place.ensures.full.1 (let more = subst P (sym c.self.view_is) all in subst Q (sym c.deref_mut.ensures.value) (omega (count, more, arith))),
    ) in
    search rules
