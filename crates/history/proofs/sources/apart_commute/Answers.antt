use Rattle.history.proofs.Framing.{apart_commute}
use Rattle.history.proofs.sources.apart_commute.Goals as goal

pub returns : goal.returns
returns c = apart_commute
