use Rattle.convergence.proofs.Wholes.{served_is_faithful}
use Rattle.convergence.proofs.order.served_is_faithful.Goals as goal

pub returns : goal.returns
returns c = served_is_faithful
