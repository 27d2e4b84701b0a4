use Rattle.std.proofs.Common.{◌≡◌, ◌∙◌, ℕ, true, List, length, ap, sym, subst}
use Rattle.std.specs.Prelude.{vec_capacity}
use Rattle.interval_pool.specs.declared.cells.Cell.{Cell}
use Rattle.interval_pool.specs.declared.cells.Head.{Head}
use Rattle.interval_pool.specs.Cells.{head_at}
use Rattle.interval_pool.specs.Values.{PoolValue, IsList, cells_of}
use Rattle.interval_pool.proofs.pool.Pool.len.Goals as goal
use Rattle.interval_pool.proofs.Valued.{head_is}
use Rattle.interval_pool.proofs.Standing.{many_are}

pub returns : goal.returns
returns c =
    let cells : List Cell = c.self.inside.cells.items in
    let heads : List Head = c.self.inside.heads.items in
    let capacity : ℕ = vec_capacity c.self.inside.cells in
    let l : ℕ = c.args.list in
    let is : (head_at heads l).is_list ≡ true = head_is cells heads capacity l (subst (λ p. IsList p l) (sym c.self.view_is) c.requires.list) in
    c.count.ensures
    ∙ (ap (λ hs. (head_at hs c.number.result).len) c.deref.ensures.value
    ∙ (ap (λ k. (head_at heads k).len) c.number.ensures
    ∙ (many_are cells heads capacity l c.self.invariant is ∙ ap (λ (p : PoolValue). length (cells_of p l)) c.self.view_is)))
