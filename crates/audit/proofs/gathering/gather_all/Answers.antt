use Rattle.std.proofs.Common.{◌≤◌, ◌++◌, ◌∙◌, List, length, take, ap, subst, arith}
use Rattle.std.proofs.lemmas.List.{take_all}
use Rattle.audit.specs.Marks.{owner_of}
use Rattle.journal.specs.declared.Entry.{Entry}
use Rattle.journal.specs.Journals.{JournalValue}
use Rattle.world.specs.Audit.{all_entries}
use Rattle.audit.specs.Gathering.{IsGathered}
use Rattle.audit.proofs.Gatherings.{journal_more}
use Rattle.audit.proofs.Rising.{get_here}
use Rattle.audit.proofs.gathering.gather_all.Goals as goal

pub loop-journal-preserved : goal.loop-journal-preserved
loop-journal-preserved c = λ g.
    let at = c.loop-journal.journal-index in
    let js = c.args.journals.now in
    let j : JournalValue = c.journal-item.result in
    subst (λ (zs : List Entry). IsGathered c.args.opened.now c.args.schema.now zs c.gather_each.new.state.runs.items (owner_of c.gather_each.new.state.owners))
    (ap (λ (zs : List Entry). all_entries (take at js) ++ zs) c.entries.ensures ∙ journal_more js at j (get_here js at j c.loop-journal-test.true c.journal-item.is))
    (c.in_ok-gather_each.ensures c.if-not-branch.false (all_entries (take at js)) (c.loop-journal.invariant g))

pub returns : goal.returns
returns c = λ yes g.
    let end : length c.args.journals.now ≤ c.loop-journal.journal-index = omega (arith, c.loop-journal-test.false, c.loop-journal.auto.journal-index-end) in
    subst (λ (js : List JournalValue). IsGathered c.args.opened.now c.args.schema.now (all_entries js) c.loop-journal.state.runs.items (owner_of c.loop-journal.state.owners))
    (take_all c.loop-journal.journal-index c.args.journals.now end)
    (c.loop-journal.invariant g)
