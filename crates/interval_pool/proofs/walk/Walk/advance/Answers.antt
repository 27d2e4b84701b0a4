use Rattle.std.proofs.Common.{rules, ◌≡◌, ◌≤◌, ◌-◌, Some, length, drop, sym, ap, ◌∙◌, arith}
use Rattle.interval_pool.specs.Links.{most_cells}
use Rattle.interval_pool.specs.Walks.{intervals_from}
use Rattle.interval_pool.proofs.Wayside.{step_of, way_on}
use Rattle.interval_pool.proofs.walk.Walk.advance.Goals as goal

pub returns-then-is_to : goal.returns-then-is_to
returns-then-is_to c =
    let cells = c.self.inside.cells.now in
    let s = step_of cells c.self.inside.rest.now c.in-Some.cell.now c.in-Some.rest.now c.in-Some.ensures.cases.0 c.self.invariant in
    let small = c.self.invariant.walks.small in
    let few : length cells - length c.in-Some.rest.now ≤ most_cells = omega (arith, small) in
    let to : c.in-Some.cell.now.next ≡ Some (length cells - length c.in-Some.rest.now) = search rules in
    ap (intervals_from cells) (way_on cells c.self.inside.rest.now c.in-Some.cell.now c.in-Some.rest.now s to).0 ∙ ap (drop 1) (sym s.parts ∙ c.self.view_is)

pub returns-else-is_to : goal.returns-else-is_to
returns-else-is_to c =
    let cells = c.self.inside.cells.now in
    let s = step_of cells c.self.inside.rest.now c.in-Some.cell.now c.in-Some.rest.now c.in-Some.ensures.cases.0 c.self.invariant in
    ap (intervals_from cells) c.cells_from-self-inside.ensures.place ∙ ap (drop 1) (sym s.parts ∙ c.self.view_is)
