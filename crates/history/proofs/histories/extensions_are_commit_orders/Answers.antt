use Rattle.history.proofs.Extending.{extensions_are_commit_orders}
use Rattle.history.proofs.histories.extensions_are_commit_orders.Goals as goal

pub returns : goal.returns
returns c = extensions_are_commit_orders
