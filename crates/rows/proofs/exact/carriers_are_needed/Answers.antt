use Rattle.rows.proofs.SharedOrders.{carriers_are_needed}
use Rattle.rows.proofs.exact.carriers_are_needed.Goals as goal

pub returns : goal.returns
returns c = carriers_are_needed
