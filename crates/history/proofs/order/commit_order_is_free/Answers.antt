use Rattle.history.proofs.Committing.{commit_order_is_free}
use Rattle.history.proofs.order.commit_order_is_free.Goals as goal

pub returns : goal.returns
returns c = commit_order_is_free
