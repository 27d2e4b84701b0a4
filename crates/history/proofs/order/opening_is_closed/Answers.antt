use Rattle.history.proofs.Committing.{opening_is_closed}
use Rattle.history.proofs.order.opening_is_closed.Goals as goal

pub returns : goal.returns
returns c = opening_is_closed
