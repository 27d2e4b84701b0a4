use Rattle.history.proofs.Closing.{closed_under_intersection}
use Rattle.history.proofs.order.closed_under_intersection.Goals as goal

pub returns : goal.returns
returns c = closed_under_intersection
