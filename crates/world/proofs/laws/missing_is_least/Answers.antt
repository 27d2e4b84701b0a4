use Rattle.world.proofs.Leasts.{missing_is_least}
use Rattle.world.proofs.laws.missing_is_least.Goals as goal

pub returns : goal.returns
returns c = missing_is_least
