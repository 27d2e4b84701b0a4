use Rattle.std.proofs.Common.{rules, take, ap, ◌∙◌}
use Rattle.journal.specs.Journals.{JournalValue}
use Rattle.journal.specs.Faults.{IsPurgedFault}
use Rattle.journal.proofs.FaultLemmas.{purged_fault}
use Rattle.journal.proofs.Journal.previous_after_purge.Goals as goal

pub returns-in_err-add_gtids-clause-fault : goal.returns-in_err-add_gtids-clause-fault
returns-in_err-add_gtids-clause-fault c =
    let fault : IsPurgedFault c.in_err-add_gtids.field-0.0 c.args.count c.args.self.now =
    purged_fault c.in_err-add_gtids.field-0.0 c.args.count c.args.self.now c.in_ok-previous.previous _ (c.in_ok-previous.ensures.ok ∙ ap (λ (j : JournalValue). j.previous) c.self.view_is) (ap (take c.args.count) c.deref.ensures.value ∙ ap (λ (j : JournalValue). take c.args.count j.entries) c.self.view_is) c.in_err-add_gtids.ensures.fault in
    search rules
