use Rattle.world.proofs.Sounding.{keys_in_order_mean}
use Rattle.world.proofs.order.keys_in_order_mean.Goals as goal

pub returns : goal.returns
returns c = keys_in_order_mean
