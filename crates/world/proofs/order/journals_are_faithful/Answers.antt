use Rattle.world.proofs.Opening.{journals_are_faithful}
use Rattle.world.proofs.order.journals_are_faithful.Goals as goal

pub returns : goal.returns
returns c = journals_are_faithful
