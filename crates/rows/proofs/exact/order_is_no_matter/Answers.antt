use Rattle.rows.proofs.Counted.{order_is_no_matter}
use Rattle.rows.proofs.exact.order_is_no_matter.Goals as goal

pub returns : goal.returns
returns c = order_is_no_matter
