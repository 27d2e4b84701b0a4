use Rattle.network.proofs.BySource.{rings_merge_by_source}
use Rattle.network.proofs.rings.rings_merge_by_source.Goals as goal

pub returns : goal.returns
returns c = rings_merge_by_source
