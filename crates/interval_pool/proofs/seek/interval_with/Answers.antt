use Rattle.std.proofs.Common.{◌≡◌, ◌∙◌, ◌≤◌, true, nat_le, ap, sym, subst}
use Rattle.std.specs.List.{Contains}
use Rattle.interval_pool.specs.declared.cells.Cell.{Cell}
use Rattle.interval_pool.specs.Intervals.{covers}
use Rattle.interval_pool.specs.Changes.{spans_of}
use Rattle.interval_pool.proofs.seek.interval_with.Goals as goal
use Rattle.interval_pool.proofs.Standing.{begins_at, begins_later, found_none, stands_there}

pub returns-in_default-clause-none : goal.returns-in_default-clause-none
returns-in_default-clause-none c =
    found_none c.args.cells.now c.args.heads.now c.args.list c.args.number c.seek-before.result c.place.result c.requires.whole c.requires.ascending c.seek-before.ensures (c.place.ensures ∙ c.after.ensures)
    (ap (begins_at c.args.cells.now c.args.number) c.in_default.is)

pub returns-then-lo-number-clause-none : goal.returns-then-lo-number-clause-none
returns-then-lo-number-clause-none c =
    found_none c.args.cells.now c.args.heads.now c.args.list c.args.number c.seek-before.result c.place.result c.requires.whole c.requires.ascending c.seek-before.ensures (c.place.ensures ∙ c.after.ensures)
    (ap (begins_at c.args.cells.now c.args.number) c.in-Some.is ∙ (ap (λ (d : Cell). nat_le d.lo c.args.number) (sym c.cell_at-lo.ensures) ∙ begins_later c.cell_at-lo.result.lo c.args.number c.if-lo-number.true))

pub returns-clause-one : goal.returns-clause-one
returns-clause-one c =
    let P : Cell → Type 0 = λ d. d.lo ≤ c.args.number in
    let Q : Cell → Type 0 = λ d. Contains (spans_of c.args.cells.now c.args.heads.now c.args.list) (record { lo = d.lo; hi = d.hi }) in
    let there = stands_there c.args.cells.now c.args.heads.now c.args.list c.args.number c.in-Some.at c.seek-before.result c.requires.whole c.seek-before.ensures (sym (c.place.ensures ∙ c.after.ensures) ∙ c.in-Some.is)
    (subst P c.cell_at-lo.ensures c.if-lo-number.false) in
    subst Q (sym c.cell_at-lo.ensures) there.0

pub returns-clause-covers : goal.returns-clause-covers
returns-clause-covers c =
    let P : Cell → Type 0 = λ d. d.lo ≤ c.args.number in
    let Q : Cell → Type 0 = λ d. covers (record { lo = d.lo; hi = d.hi }) c.args.number ≡ true in
    let there = stands_there c.args.cells.now c.args.heads.now c.args.list c.args.number c.in-Some.at c.seek-before.result c.requires.whole c.seek-before.ensures (sym (c.place.ensures ∙ c.after.ensures) ∙ c.in-Some.is)
    (subst P c.cell_at-lo.ensures c.if-lo-number.false) in
    subst Q (sym c.cell_at-lo.ensures) there.1
