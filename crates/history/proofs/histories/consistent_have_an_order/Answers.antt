use Rattle.history.proofs.Joining.{consistent_have_an_order}
use Rattle.history.proofs.histories.consistent_have_an_order.Goals as goal

pub returns : goal.returns
returns c = consistent_have_an_order
