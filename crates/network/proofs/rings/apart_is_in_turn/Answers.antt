use Rattle.network.proofs.Merging.{apart_is_in_turn}
use Rattle.network.proofs.rings.apart_is_in_turn.Goals as goal

pub returns : goal.returns
returns c = apart_is_in_turn
