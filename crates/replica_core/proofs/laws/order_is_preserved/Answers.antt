use Rattle.replica_core.proofs.OrderLemmas.{order_preserved}
use Rattle.replica_core.proofs.laws.order_is_preserved.Goals as goal

pub returns : goal.returns
returns c = order_preserved
