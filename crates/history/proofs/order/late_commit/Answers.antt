use Rattle.history.proofs.Committing.{late_law}
use Rattle.history.proofs.order.late_commit.Goals as goal

pub returns : goal.returns
returns c = late_law
