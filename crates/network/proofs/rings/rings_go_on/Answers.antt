use Rattle.network.proofs.Merging.{rings_go_on}
use Rattle.network.proofs.rings.rings_go_on.Goals as goal

pub returns : goal.returns
returns c = rings_go_on
