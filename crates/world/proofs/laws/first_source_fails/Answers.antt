use Rattle.world.proofs.Leasts.{first_source_fails}
use Rattle.world.proofs.laws.first_source_fails.Goals as goal

pub returns : goal.returns
returns c = first_source_fails
