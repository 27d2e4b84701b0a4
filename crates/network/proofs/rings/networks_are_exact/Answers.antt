use Rattle.network.proofs.Equalling.{networks_are_exact}
use Rattle.network.proofs.rings.networks_are_exact.Goals as goal

pub returns : goal.returns
returns c = networks_are_exact
