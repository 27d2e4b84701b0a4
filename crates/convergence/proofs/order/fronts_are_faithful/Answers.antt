use Rattle.convergence.proofs.Runs.{fronts_are_faithful}
use Rattle.convergence.proofs.order.fronts_are_faithful.Goals as goal

pub returns : goal.returns
returns c = fronts_are_faithful
