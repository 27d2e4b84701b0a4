use Rattle.std.proofs.Common.{ap}
use Rattle.std.proofs.lemmas.Result.{IfErr-weaker}
use Rattle.history.specs.Sources.{World}
use Rattle.audit.specs.Faults.{IsAuditFault}
use Rattle.serving.specs.Faults.{IsVerdictFault}
use Rattle.serving.proofs.Knowing.{verdict_fault}
use Rattle.serving.proofs.outcome.conflict_keys_verdict.Goals as goal

pub returns-clause-fault : goal.returns-clause-fault
returns-clause-fault c =
    let b = c.args.bundle.now in
    IfErr-weaker c.audit_keys_in_order-found.result (IsAuditFault c.in_ok-world.world.opening_set c.journals.result.now) (IsVerdictFault b)
    (λ f h. verdict_fault f b c.in_ok-world.world.opening_set c.journals.result.now (ap (λ (w : World). w.opening_set) c.in_ok-world.ensures) c.journals.ensures h)
    c.audit_keys_in_order-found.ensures.fault
