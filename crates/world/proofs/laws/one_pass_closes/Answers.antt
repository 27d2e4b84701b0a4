use Rattle.world.proofs.Gaps.{one_pass_closes}
use Rattle.world.proofs.laws.one_pass_closes.Goals as goal

pub returns : goal.returns
returns c = one_pass_closes
