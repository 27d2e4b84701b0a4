use Rattle.world.proofs.Touching.{one_pass_shares}
use Rattle.world.proofs.laws.one_pass_shares.Goals as goal

pub returns : goal.returns
returns c = one_pass_shares
