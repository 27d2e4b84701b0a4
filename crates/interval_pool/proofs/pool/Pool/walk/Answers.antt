use Rattle.std.proofs.Common.{◌≡◌, ◌∙◌, ℕ, true, List, Option, None, ap, sym, subst}
use Rattle.std.specs.Prelude.{vec_capacity}
use Rattle.interval_pool.specs.declared.cells.Cell.{Cell}
use Rattle.interval_pool.specs.declared.cells.Head.{Head}
use Rattle.interval_pool.specs.Cells.{after, head_at}
use Rattle.interval_pool.specs.Values.{PoolValue, IsList, spans}
use Rattle.interval_pool.specs.Walks.{IsWalk, intervals_from}
use Rattle.interval_pool.proofs.Valued.{head_is, spans_are, is_not_free}
use Rattle.interval_pool.proofs.Wayside.{whole_way, way_is}
use Rattle.interval_pool.proofs.pool.Pool.walk.Goals as goal

-- where the list begins
begins : (cells cells' : List Cell) (heads heads' : List Head) (l k : ℕ) (none first : Option ℕ) → cells' ≡ cells → heads' ≡ heads → k ≡ l → none ≡ None → first ≡ after cells' heads' k none → first ≡ (head_at heads l).first
begins cells cells' heads heads' l k nowhere first cs hs ls nil is = is ∙ (λ i. after (cs i) (hs i) (ls i) (nil i))

pub walk_from-requires : goal.walk_from-requires
walk_from-requires c =
    let cells : List Cell = c.self.inside.cells.items in
    let heads : List Head = c.self.inside.heads.items in
    let P : List Cell → Type 0 = λ cs. IsWalk cs c.after-first.result in
    let Q : Option ℕ → Type 0 = IsWalk cells in
    subst P (sym c.deref-3.ensures.value) (subst Q (sym (begins cells _ heads _ c.args.list _ _ c.after-first.result c.deref.ensures.value c.deref-2.ensures.value c.number-list.ensures c.none.ensures c.after-first.ensures)) (whole_way cells heads c.args.list c.self.invariant))

pub returns : goal.returns
returns c =
    let cells : List Cell = c.self.inside.cells.items in
    let heads : List Head = c.self.inside.heads.items in
    let capacity : ℕ = vec_capacity c.self.inside.cells in
    let l : ℕ = c.args.list in
    let is : (head_at heads l).is_list ≡ true = head_is cells heads capacity l (subst (λ p. IsList p l) (sym c.self.view_is) c.requires.list) in
    c.walk_from.ensures
    ∙ (λ i. intervals_from (c.deref-3.ensures.value i) (begins cells _ heads _ c.args.list _ _ c.after-first.result c.deref.ensures.value c.deref-2.ensures.value c.number-list.ensures c.none.ensures c.after-first.ensures i))
    ∙ way_is cells heads l c.self.invariant
    ∙ sym (spans_are cells heads capacity l c.self.invariant (is_not_free cells heads l c.self.invariant is))
    ∙ ap (λ (p : PoolValue). spans p l) c.self.view_is
