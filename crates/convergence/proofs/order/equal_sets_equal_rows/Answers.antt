use Rattle.convergence.proofs.Runs.{equal_sets_equal_rows}
use Rattle.convergence.proofs.order.equal_sets_equal_rows.Goals as goal

pub returns : goal.returns
returns c = equal_sets_equal_rows
