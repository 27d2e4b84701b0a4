use Rattle.std.proofs.Common.{◌∙◌, List, refl, sym, ap, subst}
use Rattle.std.specs.List.{list_all}
use Rattle.journal.specs.Journals.{JournalValue}
use Rattle.world.specs.Audit.{all_entries}
use Rattle.audit.proofs.Bringing.{AreMarked, all_marked, all_true, taken_all}
use Rattle.audit.proofs.sources.World.are_all_recorded.Goals as goal

pub returns : goal.returns
returns c = λ yes.
    let world = c.args.self.now in
    let marks = c.loop-journal.marks.items in
    all_marked world world.contents (all_entries c.args.journals.now) marks refl c.loop-journal.invariant.0
    (subst (λ (js : List JournalValue). AreMarked world.contents (all_entries js) marks) (taken_all c.args.journals.now c.loop-journal.journal-index c.loop-journal-test.false) c.loop-journal.invariant.1)
    (all_true marks (ap (list_all (λ mark. mark)) (sym c.deref.ensures.value) ∙ (sym c.are_all.ensures ∙ yes)))
