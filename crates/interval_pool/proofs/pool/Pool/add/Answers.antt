use Rattle.std.proofs.Common.{rules, ◌≡◌, ◌↔◌, ℕ, true, List, ◌++◌, length, take, drop, ap, sym, subst, arith}
use Rattle.std.specs.Prelude.{vec_capacity}
use Rattle.interval_pool.specs.declared.cells.Cell.{Cell}
use Rattle.interval_pool.specs.declared.cells.Head.{Head}
use Rattle.interval_pool.specs.declared.fault.PoolFault.{PoolFault}
use Rattle.interval_pool.specs.declared.fault.PoolFault.TheVariants.{Full}
use Rattle.interval_pool.specs.declared.interval.Interval.{Interval}
use Rattle.interval_pool.specs.Cells.{head_at}
use Rattle.interval_pool.specs.Intervals.{IsApart}
use Rattle.interval_pool.specs.Changes.{spans_of, with_more, Added, Spends}
use Rattle.interval_pool.specs.Values.{PoolValue, IsList, IsFull, IsPool, value_of, spans, AddedTo}
use Rattle.interval_pool.proofs.pool.Pool.add.Goals as goal
use Rattle.interval_pool.proofs.Valued.{seamed, pool_kept, head_is, spans_are, is_not_free, altered_list}
use Rattle.interval_pool.proofs.Parting.{all_stand, all_made}

pub invariant_of-self-2 : goal.invariant_of-self-2
invariant_of-self-2 c =
    let cells : List Cell = c.self.inside.cells.items in
    let heads : List Head = c.self.inside.heads.items in
    let l : ℕ = c.args.list in
    let s : Interval = c.args.numbers in
    let is : (head_at heads l).is_list ≡ true = head_is cells heads (vec_capacity c.self.inside.cells) l (subst (λ p. IsList p l) (sym c.self.view_is) c.requires.list) in
    let P : List Head → Type 0 = λ hs. Added cells hs c.number.result s c.add.new.cells.items c.add.new.heads in
    let Q : ℕ → Type 0 = λ k. Added cells heads k s c.add.new.cells.items c.add.new.heads in
    let changed = subst Q c.number.ensures (subst P c.deref_mut.ensures.value c.in_ok-add.ensures.ok) in
    let size : length c.add.new.heads ≡ c.self.inside.heads.len = (let m = changed.keeps.as_many_chains in let a = ap length c.deref_mut.ensures.value in let b = c.deref_mut.ensures.len in omega (m, a, b, arith)) in
    subst (λ hs. IsPool c.add.new.cells.items hs) (sym (seamed c.add.new.heads heads c.self.inside.heads.len size))
    (pool_kept cells c.add.new.cells.items heads c.add.new.heads l (with_more (spans_of cells heads l) s) c.self.invariant is changed)

pub returns-clause-ok : goal.returns-clause-ok
returns-clause-ok c =
    let cells : List Cell = c.self.inside.cells.items in
    let heads : List Head = c.self.inside.heads.items in
    let capacity : ℕ = vec_capacity c.self.inside.cells in
    let capacity' : ℕ = vec_capacity c.add.new.cells in
    let l : ℕ = c.args.list in
    let s : Interval = c.args.numbers in
    let is : (head_at heads l).is_list ≡ true = head_is cells heads capacity l (subst (λ p. IsList p l) (sym c.self.view_is) c.requires.list) in
    let P : List Head → Type 0 = λ hs. Added cells hs c.number.result s c.add.new.cells.items c.add.new.heads in
    let Q : ℕ → Type 0 = λ k. Added cells heads k s c.add.new.cells.items c.add.new.heads in
    let changed = subst Q c.number.ensures (subst P c.deref_mut.ensures.value c.in_ok-add.ensures.ok) in
    let size : length c.add.new.heads ≡ c.self.inside.heads.len = (let m = changed.keeps.as_many_chains in let a = ap length c.deref_mut.ensures.value in let b = c.deref_mut.ensures.len in omega (m, a, b, arith)) in
    let heads' : List Head = take c.self.inside.heads.len (c.add.new.heads ++ drop (length c.add.new.heads) heads) in
    let S : List Head → Type 0 = λ hs. AddedTo (value_of cells heads capacity) l s (value_of c.add.new.cells.items hs capacity') in
    let T : PoolValue → Type 0 = λ p. AddedTo p l s (value_of c.add.new.cells.items heads' capacity') in
    subst T c.self.view_is (subst S (sym (seamed c.add.new.heads heads c.self.inside.heads.len size))
    (altered_list with_more cells c.add.new.cells.items heads c.add.new.heads capacity capacity' l s c.self.invariant is changed c.in_ok-add.ensures.capacity))

pub returns-in_err-add-clause-apart : goal.returns-in_err-add-clause-apart
returns-in_err-add-clause-apart c =
    let cells : List Cell = c.self.inside.cells.items in
    let heads : List Head = c.self.inside.heads.items in
    let capacity : ℕ = vec_capacity c.self.inside.cells in
    let l : ℕ = c.args.list in
    let is : (head_at heads l).is_list ≡ true = head_is cells heads capacity l (subst (λ p. IsList p l) (sym c.self.view_is) c.requires.list) in
    let P : List Head → Type 0 = λ hs. IsApart (spans_of cells hs c.number.result) c.args.numbers in
    let Q : ℕ → Type 0 = λ k. IsApart (spans_of cells heads k) c.args.numbers in
    let R : List Interval → Type 0 = λ ss. IsApart ss c.args.numbers in
    let S : PoolValue → Type 0 = λ p. IsApart (spans p l) c.args.numbers in
    let needed : IsApart (spans c.args.self.now l) c.args.numbers = subst S c.self.view_is (subst R (sym (spans_are cells heads capacity l c.self.invariant (is_not_free cells heads l c.self.invariant is)))
    (subst Q c.number.ensures (subst P c.deref_mut.ensures.value c.in_err-add.ensures.needed))) in
    search rules

pub returns-in_err-add-clause-full : goal.returns-in_err-add-clause-full
returns-in_err-add-clause-full c =
    let cells : List Cell = c.self.inside.cells.items in
    let heads : List Head = c.self.inside.heads.items in
    let capacity : ℕ = vec_capacity c.self.inside.cells in
    let P : List Head → Type 0 = λ hs. Spends cells hs capacity in
    let fault : PoolFault = c.in_err-add.field-0.0 in
    let full : fault ≡ Full ↔ IsFull c.args.self.now = (
      λ e. subst IsFull c.self.view_is (all_stand cells heads capacity c.self.invariant (subst P c.deref_mut.ensures.value c.in_err-add.ensures.spent) (c.in_err-add.ensures.full.0 e)),
      λ all. c.in_err-add.ensures.full.1 (all_made cells heads capacity c.self.invariant (subst IsFull (sym c.self.view_is) all)),
    ) in
    search rules
