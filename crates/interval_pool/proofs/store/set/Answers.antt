use Rattle.std.proofs.Common.{subst, sym, Option}
use Rattle.interval_pool.specs.Changes.{Sets}
use Rattle.interval_pool.specs.declared.interval.Interval.{Interval}
use Rattle.interval_pool.proofs.store.set.Goals as goal
use Rattle.interval_pool.proofs.Putting.{set_one}

pub returns-in-Some : goal.returns-in-Some
returns-in-Some c =
    let P : Option Interval → Type 0 = λ o. Sets c.args.cells.now c.args.heads.now c.args.list c.args.before o c.place.new.cells c.place.new.heads in
    subst P (sym c.in-Some.is) (set_one c.args.cells.now c.place.new.cells c.args.heads.now c.place.new.heads c.args.list c.args.before c.in-Some.numbers c.place.ensures)
