use Rattle.std.proofs.Common.{rules, ◌≡◌, ◌↔◌, ◌∙◌, ℕ, true, List, [], ◌∷◌, ◌++◌, length, take, drop, ap, sym, subst, arith}
use Rattle.std.specs.Prelude.{vec_capacity}
use Rattle.std.specs.List.{AllByRecursion}
use Rattle.interval_pool.specs.declared.cells.Cell.{Cell}
use Rattle.interval_pool.specs.declared.cells.Head.{Head}
use Rattle.interval_pool.specs.declared.fault.PoolFault.{PoolFault}
use Rattle.interval_pool.specs.declared.fault.PoolFault.TheVariants.{Full}
use Rattle.interval_pool.specs.declared.interval.Interval.{Interval}
use Rattle.interval_pool.specs.Cells.{head_at}
use Rattle.interval_pool.specs.Intervals.{IsBefore}
use Rattle.interval_pool.specs.Changes.{spans_of, with_more, Added, Spends}
use Rattle.interval_pool.specs.Values.{PoolValue, IsList, IsFull, IsPool, value_of, spans, Appended}
use Rattle.interval_pool.proofs.pool.Pool.append.Goals as goal
use Rattle.interval_pool.proofs.Valued.{seamed, pool_kept, head_is, spans_are, is_not_free, appended_list}
use Rattle.interval_pool.proofs.Parting.{all_stand, all_made}

pub append-requires-clause-behind : goal.append-requires-clause-behind
append-requires-clause-behind c =
    let cells : List Cell = c.self.inside.cells.items in
    let heads : List Head = c.self.inside.heads.items in
    let capacity : ℕ = vec_capacity c.self.inside.cells in
    let l : ℕ = c.args.list in
    let is : (head_at heads l).is_list ≡ true = head_is cells heads capacity l (subst (λ p. IsList p l) (sym c.self.view_is) c.requires.list) in
    let P : List Interval → Type 0 = λ ss. AllByRecursion (λ t. IsBefore t c.args.numbers) ss in
    let same : spans c.args.self.now l ≡ spans_of cells c.deref_mut.result.now c.number-list.result = (
    ap (λ (p : PoolValue). spans p l) (sym c.self.view_is)
    ∙ (spans_are cells heads capacity l c.self.invariant (is_not_free cells heads l c.self.invariant is)
    ∙ (ap (spans_of cells heads) (sym c.number-list.ensures) ∙ ap (λ hs. spans_of cells hs c.number-list.result) (sym c.deref_mut.ensures.value)))
    ) in
    subst P same c.requires.behind

pub invariant_of-self-2 : goal.invariant_of-self-2
invariant_of-self-2 c =
    let cells : List Cell = c.self.inside.cells.items in
    let heads : List Head = c.self.inside.heads.items in
    let l : ℕ = c.args.list in
    let s : Interval = c.args.numbers in
    let is : (head_at heads l).is_list ≡ true = head_is cells heads (vec_capacity c.self.inside.cells) l (subst (λ p. IsList p l) (sym c.self.view_is) c.requires.list) in
    let P : List Head → Type 0 = λ hs. Added cells hs c.number-list.result s c.append.new.cells.items c.append.new.heads in
    let Q : ℕ → Type 0 = λ k. Added cells heads k s c.append.new.cells.items c.append.new.heads in
    let changed = subst Q c.number-list.ensures (subst P c.deref_mut.ensures.value c.in_ok-place.ensures.ok) in
    let size : length c.append.new.heads ≡ c.self.inside.heads.len = (let m = changed.keeps.as_many_chains in let a = ap length c.deref_mut.ensures.value in let b = c.deref_mut.ensures.len in omega (m, a, b, arith)) in
    subst (λ hs. IsPool c.append.new.cells.items hs) (sym (seamed c.append.new.heads heads c.self.inside.heads.len size))
    (pool_kept cells c.append.new.cells.items heads c.append.new.heads l (with_more (spans_of cells heads l) s) c.self.invariant is changed)

pub returns-clause-ok : goal.returns-clause-ok
returns-clause-ok c =
    let cells : List Cell = c.self.inside.cells.items in
    let heads : List Head = c.self.inside.heads.items in
    let capacity : ℕ = vec_capacity c.self.inside.cells in
    let capacity' : ℕ = vec_capacity c.append.new.cells in
    let cells' : List Cell = c.append.new.cells.items in
    let l : ℕ = c.args.list in
    let s : Interval = c.args.numbers in
    let is : (head_at heads l).is_list ≡ true = head_is cells heads capacity l (subst (λ p. IsList p l) (sym c.self.view_is) c.requires.list) in
    let P : List Head → Type 0 = λ hs. Added cells hs c.number-list.result s cells' c.append.new.heads in
    let Q : ℕ → Type 0 = λ k. Added cells heads k s cells' c.append.new.heads in
    let P' : List Head → Type 0 = λ hs. spans_of cells' c.append.new.heads c.number-list.result ≡ spans_of cells hs c.number-list.result ++ s ∷ [] in
    let Q' : ℕ → Type 0 = λ k. spans_of cells' c.append.new.heads k ≡ spans_of cells heads k ++ s ∷ [] in
    let changed = subst Q c.number-list.ensures (subst P c.deref_mut.ensures.value c.in_ok-place.ensures.ok) in
    let more = subst Q' c.number-list.ensures (subst P' c.deref_mut.ensures.value c.in_ok-place.ensures.spans) in
    let size : length c.append.new.heads ≡ c.self.inside.heads.len = (let m = changed.keeps.as_many_chains in let a = ap length c.deref_mut.ensures.value in let b = c.deref_mut.ensures.len in omega (m, a, b, arith)) in
    let heads' : List Head = take c.self.inside.heads.len (c.append.new.heads ++ drop (length c.append.new.heads) heads) in
    let S : List Head → Type 0 = λ hs. Appended (value_of cells heads capacity) l s (value_of cells' hs capacity') in
    let T : PoolValue → Type 0 = λ p. Appended p l s (value_of cells' heads' capacity') in
    subst T c.self.view_is (subst S (sym (seamed c.append.new.heads heads c.self.inside.heads.len size))
    (appended_list cells cells' heads c.append.new.heads capacity capacity' l s c.self.invariant is changed more c.in_ok-place.ensures.capacity))

pub returns-in_err-place-clause-full : goal.returns-in_err-place-clause-full
returns-in_err-place-clause-full c =
    let cells : List Cell = c.self.inside.cells.items in
    let heads : List Head = c.self.inside.heads.items in
    let capacity : ℕ = vec_capacity c.self.inside.cells in
    let P : List Head → Type 0 = λ hs. Spends cells hs capacity in
    let fault : PoolFault = c.in_err-place.field-0.0 in
    let full : fault ≡ Full ↔ IsFull c.args.self.now = (
      λ e. subst IsFull c.self.view_is (all_stand cells heads capacity c.self.invariant (subst P c.deref_mut.ensures.value c.in_err-place.ensures.spent) (c.in_err-place.ensures.full.0 e)),
      λ all. c.in_err-place.ensures.full.1 (all_made cells heads capacity c.self.invariant (subst IsFull (sym c.self.view_is) all)),
    ) in
    search rules
