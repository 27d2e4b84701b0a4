use Rattle.convergence.proofs.There.{faithful_in_order}
use Rattle.convergence.proofs.sources.faithful_in_order.Goals as goal

pub returns : goal.returns
returns c = faithful_in_order
