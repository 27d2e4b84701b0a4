use Rattle.std.proofs.Common.{rules}
use Rattle.audit.specs.Others.{IsListFault}
use Rattle.audit.proofs.Parts.{fault_of_purged}
use Rattle.audit.proofs.sources.World.list_behind.Goals as goal

pub returns-in_err-purged-clause-fault : goal.returns-in_err-purged-clause-fault
returns-in_err-purged-clause-fault c =
    let fault : IsListFault c.args.self.now c.args.journals.now c.in_err-purged.field-0.0 = fault_of_purged c.in_err-purged.field-0.0 c.args.self.now c.args.journals.now c.in_err-purged.ensures.fault in
    search rules
