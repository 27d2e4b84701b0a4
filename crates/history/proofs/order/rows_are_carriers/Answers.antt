use Rattle.history.proofs.Closing.{rows_are_carriers}
use Rattle.history.proofs.order.rows_are_carriers.Goals as goal

pub returns : goal.returns
returns c = rows_are_carriers
