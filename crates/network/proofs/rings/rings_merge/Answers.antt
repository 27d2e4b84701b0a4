use Rattle.network.proofs.Merging.{rings_merge}
use Rattle.network.proofs.rings.rings_merge.Goals as goal

pub returns : goal.returns
returns c = rings_merge
