use Rattle.history.proofs.Committing.{early_law}
use Rattle.history.proofs.order.early_commit.Goals as goal

pub returns : goal.returns
returns c = early_law
