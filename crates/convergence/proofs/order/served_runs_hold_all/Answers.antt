use Rattle.convergence.proofs.Deciding.{served_runs_hold_all}
use Rattle.convergence.proofs.order.served_runs_hold_all.Goals as goal

pub returns : goal.returns
returns c = served_runs_hold_all
