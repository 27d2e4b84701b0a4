use Rattle.history.proofs.Alone.{alone_or_together}
use Rattle.history.proofs.sources.alone_or_together.Goals as goal

pub returns : goal.returns
returns c = alone_or_together
