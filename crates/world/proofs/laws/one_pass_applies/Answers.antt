use Rattle.world.proofs.OnePass.{one_pass_applies}
use Rattle.world.proofs.laws.one_pass_applies.Goals as goal

pub returns : goal.returns
returns c = one_pass_applies
