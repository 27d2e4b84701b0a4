use Rattle.convergence.proofs.AuditingInOrder.{served_holds_all_in_order}
use Rattle.convergence.proofs.audited.served_holds_all_in_order.Goals as goal

pub returns : goal.returns
returns c = served_holds_all_in_order
