use Rattle.std.proofs.lemmas.Result.{IfErr-weaker}
use Rattle.audit.specs.Faults.{IsAuditFault}
use Rattle.serving.specs.Faults.{IsVerdictFault}
use Rattle.serving.proofs.Conditions.{all_taken}
use Rattle.serving.proofs.Knowing.{verdict_fault}
use Rattle.serving.proofs.outcome.source_keys_verdict.Goals as goal

pub audit_keys_of-requires : goal.audit_keys_of-requires
audit_keys_of-requires c =
    all_taken c.args.bundle.now c.rows.result.now c.opening_set-opened.result.now c.journals.result.now c.rows.ensures c.opening_set-opened.ensures c.journals.ensures c.keeps_servable.ensures.fits

pub returns-clause-fault : goal.returns-clause-fault
returns-clause-fault c =
    let b = c.args.bundle.now in
    IfErr-weaker c.audit_keys_of.result (IsAuditFault c.opening_set-opened.result.now c.journals.result.now) (IsVerdictFault b)
    (λ f h. verdict_fault f b c.opening_set-opened.result.now c.journals.result.now c.opening_set-opened.ensures c.journals.ensures h)
    c.audit_keys_of.ensures.fault
