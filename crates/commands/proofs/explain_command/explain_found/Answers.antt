use Rattle.std.proofs.Common.{sym, subst}
use Rattle.std.specs.Prelude.{Err}
use Rattle.gtid_report.specs.declared.fault.Fault.{Fault}
use Rattle.commands.specs.Explaining.{FindsExplained}
use Rattle.commands.proofs.Explaining.{bundle_found, fault_found}
use Rattle.commands.proofs.explain_command.explain_found.Goals as goal

pub returns-in-Ok : goal.returns-in-Ok
returns-in-Ok c =
    bundle_found c.args.order c.args.bytes.now c.in-Ok.bundle c.explain_bundle-held.result c.in-Ok.ensures c.explain_bundle-held.ensures.answer c.explain_bundle-held.ensures.notes c.explain_bundle-held.ensures.fault

pub returns-in-Err : goal.returns-in-Err
returns-in-Err c = subst (λ (fault : Fault). FindsExplained c.args.order c.args.bytes.now (Err fault)) (sym c.from.ensures) (fault_found c.args.order c.args.bytes.now c.in-Err.fault c.in-Err.ensures)
