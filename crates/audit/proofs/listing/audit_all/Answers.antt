use Rattle.std.proofs.Common.{rules}
use Rattle.audit.specs.Others.{IsListFault}
use Rattle.audit.proofs.Parts.{fault_of_purged}
use Rattle.audit.proofs.listing.audit_all.Goals as goal

pub returns-in_err-first-clause-fault : goal.returns-in_err-first-clause-fault
returns-in_err-first-clause-fault c =
    let fault : IsListFault c.args.world.now c.args.journals.now c.in_err-first.field-0.0 = fault_of_purged c.in_err-first.field-0.0 c.args.world.now c.args.journals.now c.in_err-first.ensures.fault in
    search rules
