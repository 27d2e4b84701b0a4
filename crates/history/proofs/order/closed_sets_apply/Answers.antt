use Rattle.history.proofs.Closing.{closed_sets_apply}
use Rattle.history.proofs.order.closed_sets_apply.Goals as goal

pub returns : goal.returns
returns c = closed_sets_apply
