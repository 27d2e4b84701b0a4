use Rattle.convergence.proofs.Runs.{faithful_runs_merge}
use Rattle.convergence.proofs.order.faithful_runs_merge.Goals as goal

pub returns : goal.returns
returns c = faithful_runs_merge
