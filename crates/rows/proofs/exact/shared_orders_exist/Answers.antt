use Rattle.rows.proofs.SharedOrders.{shared_orders_exist}
use Rattle.rows.proofs.exact.shared_orders_exist.Goals as goal

pub returns : goal.returns
returns c = shared_orders_exist
