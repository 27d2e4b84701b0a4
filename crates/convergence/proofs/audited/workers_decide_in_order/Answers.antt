use Rattle.convergence.proofs.AuditingInOrder.{workers_decide_in_order}
use Rattle.convergence.proofs.audited.workers_decide_in_order.Goals as goal

pub returns : goal.returns
returns c = workers_decide_in_order
