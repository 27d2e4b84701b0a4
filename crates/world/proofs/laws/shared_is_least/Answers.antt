use Rattle.world.proofs.Leasts.{shared_is_least}
use Rattle.world.proofs.laws.shared_is_least.Goals as goal

pub returns : goal.returns
returns c = shared_is_least
