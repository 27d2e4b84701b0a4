use Rattle.network.proofs.Equalling.{exact_goes_on}
use Rattle.network.proofs.rings.exact_goes_on.Goals as goal

pub returns : goal.returns
returns c = exact_goes_on
