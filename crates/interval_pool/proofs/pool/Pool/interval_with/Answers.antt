use Rattle.std.proofs.Common.{◌≡◌, ◌∙◌, ℕ, true, false, IfSome, IfNone, List, ap, sym, subst}
use Rattle.std.specs.Prelude.{vec_capacity}
use Rattle.std.specs.List.{Contains}
use Rattle.interval_pool.specs.declared.cells.Cell.{Cell}
use Rattle.interval_pool.specs.declared.cells.Head.{Head}
use Rattle.interval_pool.specs.declared.interval.Interval.{Interval}
use Rattle.interval_pool.specs.Cells.{head_at}
use Rattle.interval_pool.specs.Intervals.{has}
use Rattle.interval_pool.specs.Changes.{spans_of}
use Rattle.interval_pool.specs.Values.{PoolValue, IsList, spans}
use Rattle.interval_pool.proofs.pool.Pool.interval_with.Goals as goal
use Rattle.interval_pool.proofs.Valued.{head_is, spans_are, is_not_free}

same_spans : (c : goal.After-interval_with) → spans_of c.deref-3.result.now c.deref-4.result.now c.number-list.result ≡ spans c.args.self.now c.args.list
same_spans c =
    let cells : List Cell = c.self.inside.cells.items in
    let heads : List Head = c.self.inside.heads.items in
    let capacity : ℕ = vec_capacity c.self.inside.cells in
    let l : ℕ = c.args.list in
    let is : (head_at heads l).is_list ≡ true = head_is cells heads capacity l (subst (λ p. IsList p l) (sym c.self.view_is) c.requires.list) in
    ap (λ cs. spans_of cs c.deref-4.result.now c.number-list.result) c.deref-3.ensures.value
    ∙ (ap (λ hs. spans_of cells hs c.number-list.result) c.deref-4.ensures.value
    ∙ (ap (spans_of cells heads) c.number-list.ensures
    ∙ (sym (spans_are cells heads capacity l c.self.invariant (is_not_free cells heads l c.self.invariant is))
    ∙ ap (λ (p : PoolValue). spans p l) c.self.view_is)))

pub returns-clause-one : goal.returns-clause-one
returns-clause-one c =
    let P : List Interval → Type 0 = λ ss. IfSome c.interval_with.result (λ s. Contains ss s) in
    subst P (same_spans c) c.interval_with.ensures.one

pub returns-clause-none : goal.returns-clause-none
returns-clause-none c =
    let P : List Interval → Type 0 = λ ss. IfNone c.interval_with.result (has ss c.args.number ≡ false) in
    subst P (same_spans c) c.interval_with.ensures.none
