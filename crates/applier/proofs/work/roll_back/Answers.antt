use Rattle.applier.proofs.GoingOn.{makes_on}
use Rattle.applier.proofs.work.roll_back.Goals as goal

pub returns : goal.returns
returns g c = makes_on _ _ _ c.rollback.result tt c.rollback.ensures
