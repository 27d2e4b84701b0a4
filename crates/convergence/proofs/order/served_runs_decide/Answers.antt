use Rattle.convergence.proofs.Deciding.{served_runs_decide}
use Rattle.convergence.proofs.order.served_runs_decide.Goals as goal

pub returns : goal.returns
returns c = served_runs_decide
