use Rattle.std.proofs.Common.{sym, subst}
use Rattle.std.specs.Prelude.{Err}
use Rattle.gtid_report.specs.declared.fault.Fault.{Fault}
use Rattle.commands.specs.Telling.{FindsTold}
use Rattle.commands.proofs.Telling.{bundle_told, fault_told}
use Rattle.commands.proofs.history_command.tell_found.Goals as goal

pub returns-in-Ok : goal.returns-in-Ok
returns-in-Ok g c =
    bundle_told c.args.order c.args.bytes.now c.in-Ok.bundle c.tell_bundle.result c.in-Ok.ensures c.tell_bundle.ensures.answer c.tell_bundle.ensures.notes c.tell_bundle.ensures.fault

pub returns-in-Err : goal.returns-in-Err
returns-in-Err g c = subst (λ (fault : Fault). FindsTold c.args.order c.args.bytes.now (Err fault)) (sym c.from.ensures) (fault_told c.args.order c.args.bytes.now c.in-Err.fault c.in-Err.ensures)
