use Rattle.std.proofs.Common.{ℕ, List, Option, length}
use Rattle.interval_pool.specs.declared.cells.Cell.{Cell}
use Rattle.interval_pool.specs.declared.cells.Head.{Head}
use Rattle.interval_pool.specs.Changes.{PlacesRun}
use Rattle.interval_pool.proofs.store.place_run.Given as goal

abbrev pub invariant-place : goal.invariant-place
invariant-place l =
    (end : Option ℕ) (cells : List Cell) (heads : List Head) → PlacesRun l.cells l.heads l.list l.end l.rest end cells heads → PlacesRun l.initial.cells l.initial.heads l.list l.fn.last l.fn.intervals end cells heads

abbrev pub decreases-place : goal.decreases-place
decreases-place l = length l.rest
