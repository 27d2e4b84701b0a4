use Rattle.convergence.proofs.Logged.{runs_are_of_logs}
use Rattle.convergence.proofs.order.runs_are_of_logs.Goals as goal

pub returns : goal.returns
returns c = runs_are_of_logs
