use Rattle.history.proofs.Committing.{commit_orders_agree}
use Rattle.history.proofs.order.commit_orders_agree.Goals as goal

pub returns : goal.returns
returns c = commit_orders_agree
