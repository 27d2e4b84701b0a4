use Rattle.convergence.proofs.Logged.{logs_decide_rows}
use Rattle.convergence.proofs.order.logs_decide_rows.Goals as goal

pub returns : goal.returns
returns c = logs_decide_rows
