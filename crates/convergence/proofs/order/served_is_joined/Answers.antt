use Rattle.convergence.proofs.Serving.{served_is_joined}
use Rattle.convergence.proofs.order.served_is_joined.Goals as goal

pub returns : goal.returns
returns c = served_is_joined
