use Rattle.history.proofs.Framing.{touched_decides}
use Rattle.history.proofs.sources.touched_decides.Goals as goal

pub returns : goal.returns
returns c = touched_decides
