use Rattle.applier.proofs.GoingOn.{takes_on}
use Rattle.applier.proofs.work.take.Goals as goal

pub returns-clause-work : goal.returns-clause-work
returns-clause-work g c = takes_on _ _ _ _ c.take_to_prepare.result c.take_to_prepare.ensures.makes
