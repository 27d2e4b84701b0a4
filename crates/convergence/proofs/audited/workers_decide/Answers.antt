use Rattle.convergence.proofs.Auditing.{workers_decide}
use Rattle.convergence.proofs.audited.workers_decide.Goals as goal

pub returns : goal.returns
returns c = workers_decide
