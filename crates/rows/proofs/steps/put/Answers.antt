use Rattle.std.proofs.Common.{[], ◌∷◌, ◌++◌, List, sym, ap, subst, ◌∙◌}
use Rattle.std.specs.FinMap as map
use Rattle.rows.specs.declared.steps.EntryStep.{EntryStep}
use Rattle.rows.specs.Steps.{Entries, IsExpected, all_undone, rows_in, step_of, undone}
use Rattle.rows.proofs.Hashed.{hashed_put, get_hashed}
use Rattle.rows.proofs.StepLemmas.{all_undone_last, undone_put}
use Rattle.rows.proofs.steps.put.Goals as goal

pub returns-clause-put : goal.returns-clause-put
returns-clause-put c = λ _.
    hashed_put c.make_room.new.carriers.entries c.insert_full.new.self.entries c.args.key c.args.row c.in-Ok-insert_full.ensures.updates.0
    ∙ ap (λ (es : Entries). map.insert (rows_in es) c.args.key c.args.row) c.make_room.ensures.entries

pub returns-clause-over : goal.returns-clause-over
returns-clause-over c = λ found.
    subst (IsExpected c.args.expected)
    (c.in-Ok-insert_full.ensures.old ∙ sym (get_hashed c.make_room.new.carriers.entries c.args.key) ∙ ap (λ (es : Entries). map.get (rows_in es) c.args.key) c.make_room.ensures.entries)
    (c.is_expected-is_found.ensures found)

pub returns-clause-back : goal.returns-clause-back
returns-clause-back c =
    let es = c.insert_full.new.self.entries in
    let log = c.args.log.now.items in
    ap (λ (l : List EntryStep). all_undone l es) (c.note.ensures ∙ ap (λ (l : List EntryStep). l ++ c.step_of.result ∷ []) c.make_room.ensures.log)
    ∙ all_undone_last log c.step_of.result es
    ∙ ap (all_undone log)
    (ap (λ s. undone s es) (c.step_of.ensures ∙ ap (λ n. step_of n c.in-Ok-insert_full.over) c.in-Ok-insert_full.ensures.index)
    ∙ ap (undone (step_of _ c.in-Ok-insert_full.over)) c.in-Ok-insert_full.ensures.entries
    ∙ undone_put c.make_room.new.carriers.entries c.args.key c.args.row c.in-Ok-insert_full.over c.in-Ok-insert_full.ensures.old
    ∙ c.make_room.ensures.entries)
