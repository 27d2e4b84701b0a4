use Rattle.convergence.proofs.Auditing.{served_holds_all}
use Rattle.convergence.proofs.audited.served_holds_all.Goals as goal

pub returns : goal.returns
returns c = served_holds_all
