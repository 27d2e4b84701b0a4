use Rattle.convergence.proofs.Runs.{runs_go_on}
use Rattle.convergence.proofs.order.runs_go_on.Goals as goal

pub returns : goal.returns
returns c = runs_go_on
