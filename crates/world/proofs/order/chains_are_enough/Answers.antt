use Rattle.world.proofs.Opening.{chains_are_enough}
use Rattle.world.proofs.order.chains_are_enough.Goals as goal

pub returns : goal.returns
returns c = chains_are_enough
