use Rattle.world.proofs.Exact.{equal_unions_equal_rows}
use Rattle.world.proofs.order.equal_unions_equal_rows.Goals as goal

pub returns : goal.returns
returns c = equal_unions_equal_rows
