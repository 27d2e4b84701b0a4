use Rattle.history.proofs.Extending.{extensions_merge}
use Rattle.history.proofs.histories.extensions_merge.Goals as goal

pub returns : goal.returns
returns c = extensions_merge
