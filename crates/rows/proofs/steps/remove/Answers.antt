use Rattle.std.proofs.Common.{[], ◌∷◌, ◌++◌, List, sym, ap, subst, ◌∙◌}
use Rattle.std.specs.FinMap as map
use Rattle.rows.specs.declared.steps.EntryStep.{EntryStep}
use Rattle.rows.specs.declared.steps.EntryStep.TheVariants.{Removed}
use Rattle.rows.specs.Steps.{Entries, IsExpected, all_undone, rows_in}
use Rattle.rows.proofs.Hashed.{hashed_taken, get_hashed}
use Rattle.rows.proofs.StepLemmas.{all_undone_last, undone_removed}
use Rattle.rows.proofs.steps.remove.Goals as goal

pub returns-in_default-swap_remove_full-clause-removed : goal.returns-in_default-swap_remove_full-clause-removed
returns-in_default-swap_remove_full-clause-removed c = λ _.
    hashed_taken c.make_room.new.carriers.entries c.swap_remove_full.new.self.entries c.args.key.now c.swap_remove_full.ensures.updates.0
    ∙ ap (λ (es : Entries). map.remove (rows_in es) c.args.key.now) c.make_room.ensures.entries

pub returns-in_default-swap_remove_full-clause-over : goal.returns-in_default-swap_remove_full-clause-over
returns-in_default-swap_remove_full-clause-over c = λ found.
    subst (IsExpected c.args.expected)
    (c.in_default-swap_remove_full.ensures.value ∙ sym (get_hashed c.make_room.new.carriers.entries c.args.key.now) ∙ ap (λ (es : Entries). map.get (rows_in es) c.args.key.now) c.make_room.ensures.entries)
    (c.is_expected.ensures found)

pub returns-clause-removed : goal.returns-clause-removed
returns-clause-removed c = λ _.
    hashed_taken c.make_room.new.carriers.entries c.swap_remove_full.new.self.entries c.args.key.now c.swap_remove_full.ensures.updates.0
    ∙ ap (λ (es : Entries). map.remove (rows_in es) c.args.key.now) c.make_room.ensures.entries

pub returns-clause-over : goal.returns-clause-over
returns-clause-over c = λ found.
    subst (IsExpected c.args.expected)
    (c.in-Some.ensures.value ∙ sym (get_hashed c.make_room.new.carriers.entries c.args.key.now) ∙ ap (λ (es : Entries). map.get (rows_in es) c.args.key.now) c.make_room.ensures.entries)
    (c.matches_row-is_found.ensures found)

pub returns-clause-back : goal.returns-clause-back
returns-clause-back c =
    let es = c.swap_remove_full.new.self.entries in
    let log = c.args.log.now.items in
    let step : EntryStep = Removed c.in-Some.place c.in-Some.key c.in-Some.row in
    ap (λ (l : List EntryStep). all_undone l es) (c.note.ensures ∙ ap (λ (l : List EntryStep). l ++ step ∷ []) c.make_room.ensures.log)
    ∙ all_undone_last log step es
    ∙ ap (all_undone log)
    (undone_removed c.make_room.new.carriers.entries es c.args.key.now c.in-Some.key c.in-Some.row c.in-Some.place c.in-Some.ensures.index c.in-Some.ensures.key c.in-Some.ensures.value c.swap_remove_full.ensures.entries c.swap_remove_full.ensures.updates.0
    ∙ c.make_room.ensures.entries)
