use Rattle.history.proofs.Agreeing.{orders_agree}
use Rattle.history.proofs.histories.orders_agree.Goals as goal

pub returns : goal.returns
returns c = orders_agree
