use Rattle.std.proofs.Common.{◌≡◌, ◌∙◌, ℕ, List, Option, ap, sym, subst}
use Rattle.std.specs.Prelude.{vec_capacity}
use Rattle.interval_pool.specs.declared.cells.Cell.{Cell}
use Rattle.interval_pool.specs.Cells.{cell_at}
use Rattle.interval_pool.specs.Values.{PoolValue, Follows}
use Rattle.interval_pool.proofs.pool.Pool.next.Goals as goal
use Rattle.interval_pool.proofs.Standing.{follows}

pub returns : goal.returns
returns c =
    let cells : List Cell = c.self.inside.cells.items in
    let P : PoolValue → Type 0 = λ p. Follows p c.args.cell c.number.result in
    let Q : Option ℕ → Type 0 = λ o. Follows c.args.self.now c.args.cell o in
    let same : c.number.result ≡ (cell_at cells c.args.cell).next = c.number.ensures ∙ (ap (λ (d : Cell). d.next) c.cell_at.ensures ∙ ap (λ cs. (cell_at cs c.args.cell).next) c.deref.ensures.value) in
    let R : PoolValue → Type 0 = λ p. Follows p c.args.cell (cell_at cells c.args.cell).next in
    subst Q (sym same) (subst R c.self.view_is (follows cells c.self.inside.heads.items (vec_capacity c.self.inside.cells) c.args.cell c.self.invariant))
