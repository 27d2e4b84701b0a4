use Rattle.std.proofs.Common.{ℕ, List, Option, sym, subst}
use Rattle.std.proofs.lemmas.List.{nil_from_length}
use Rattle.interval_pool.specs.declared.cells.Cell.{Cell}
use Rattle.interval_pool.specs.declared.cells.Head.{Head}
use Rattle.interval_pool.specs.declared.interval.Interval.{Interval}
use Rattle.interval_pool.specs.Cells.{after}
use Rattle.interval_pool.specs.Changes.{PlacesRun}
use Rattle.interval_pool.proofs.store.place_run.Goals as goal
use Rattle.interval_pool.proofs.Extending.{place_none, place_more}

pub place-preserved : goal.place-preserved
place-preserved c = λ end cells heads made.
    let cells1 : List Cell = c.place.cells in
    let heads1 : List Head = c.place.heads in
    let cells2 : List Cell = c.place-in-Some.new.cells in
    let heads2 : List Head = c.place-in-Some.new.heads in
    let s : Interval = c.in-Some.numbers.now in
    let ss : List Interval = c.in-Some.more.now in
    let P : Option ℕ → Type 0 = λ o. PlacesRun cells2 heads2 c.args.list o ss end cells heads in
    let Q : Option ℕ → Type 0 = λ o. PlacesRun cells2 heads2 c.args.list (after cells1 heads1 0 o) ss end cells heads in
    let R : List Interval → Type 0 = λ is. PlacesRun cells1 heads1 c.args.list c.place.end is end cells heads in
    c.place.invariant end cells heads (subst R (sym c.in-Some.ensures.cases.0)
    (place_more cells1 cells2 cells heads1 heads2 heads c.args.list c.place.end end s ss c.place-in-Some.ensures (subst Q c.none.ensures (subst P c.after-at.ensures made))))

pub returns : goal.returns
returns c =
    let P : List Interval → Type 0 = λ is. PlacesRun c.place.cells c.place.heads c.args.list c.place.end is c.place.end c.place.cells c.place.heads in
    c.place.invariant c.place.end c.place.cells c.place.heads (subst P (sym (nil_from_length c.place.rest.now c.in_default.ensures.cases)) (place_none c.place.cells c.place.heads c.args.list c.place.end))
