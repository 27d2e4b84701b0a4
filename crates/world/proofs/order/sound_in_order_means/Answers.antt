use Rattle.world.proofs.Sounding.{sound_in_order_means}
use Rattle.world.proofs.order.sound_in_order_means.Goals as goal

pub returns : goal.returns
returns c = sound_in_order_means
