use Rattle.history.proofs.Framing.{untouched_stays}
use Rattle.history.proofs.sources.untouched_stays.Goals as goal

pub returns : goal.returns
returns c = untouched_stays
