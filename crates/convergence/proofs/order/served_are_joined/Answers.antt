use Rattle.convergence.proofs.Sharing.{served_are_joined}
use Rattle.convergence.proofs.order.served_are_joined.Goals as goal

pub returns : goal.returns
returns c = served_are_joined
