use Rattle.std.proofs.Common.{◌≡◌, ◌∙◌, List, ap, sym, subst}
use Rattle.std.specs.Prelude.{vec_capacity}
use Rattle.interval_pool.specs.declared.cells.Cell.{Cell}
use Rattle.interval_pool.specs.Cells.{cell_at}
use Rattle.interval_pool.specs.Values.{PoolValue, Covers}
use Rattle.interval_pool.proofs.pool.Pool.span.Goals as goal
use Rattle.interval_pool.proofs.Standing.{covers_it}

pub returns : goal.returns
returns c =
    let cells : List Cell = c.self.inside.cells.items in
    let Q : Cell → Type 0 = λ d. Covers c.args.self.now c.args.cell (record { lo = d.lo; hi = d.hi }) in
    let same : c.cell_at-found.result ≡ cell_at cells c.args.cell = c.cell_at-found.ensures ∙ ap (λ cs. cell_at cs c.args.cell) c.deref.ensures.value in
    let R : PoolValue → Type 0 = λ p. Covers p c.args.cell (record { lo = (cell_at cells c.args.cell).lo; hi = (cell_at cells c.args.cell).hi }) in
    subst Q (sym same) (subst R c.self.view_is (covers_it cells c.self.inside.heads.items (vec_capacity c.self.inside.cells) c.args.cell c.self.invariant))
