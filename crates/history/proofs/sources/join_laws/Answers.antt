use Rattle.history.proofs.SourceClosing.{join_laws}
use Rattle.history.proofs.sources.join_laws.Goals as goal

pub returns : goal.returns
returns c = join_laws
