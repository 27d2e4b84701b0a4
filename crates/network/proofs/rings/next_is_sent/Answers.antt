use Rattle.network.proofs.Prefixes.{next_is_sent}
use Rattle.network.proofs.rings.next_is_sent.Goals as goal

pub returns : goal.returns
returns c = next_is_sent
