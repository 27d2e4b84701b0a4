use Rattle.std.proofs.Common.{rules}
use Rattle.audit.specs.Faults.{IsAuditFault}
use Rattle.audit.proofs.Lacking.{lacking_fault}
use Rattle.audit.proofs.sources.World.first_purged.Goals as goal

pub returns-in_err-missing-clause-fault : goal.returns-in_err-missing-clause-fault
returns-in_err-missing-clause-fault c =
    let fault : IsAuditFault c.args.self.now.opening_set c.args.journals.now c.in_err-missing.field-0.0 =
    lacking_fault c.in_err-missing.field-0.0 c.args.journals.now c.loop-i.i c.index-journals-i.result c.previous-then-not-is_subset.result.now c.opening_set-then-not-is_subset.result.now c.args.self.now.opening_set c.loop-i-test.true c.index-journals-i.is c.previous-then-not-is_subset.ensures c.opening_set-then-not-is_subset.ensures c.in_err-missing.ensures.full in
    search rules
