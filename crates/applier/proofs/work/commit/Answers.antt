use Rattle.applier.proofs.GoingOn.{makes_on}
use Rattle.applier.proofs.work.commit.Goals as goal

pub returns-in-Some : goal.returns-in-Some
returns-in-Some g c = makes_on _ _ _ c.commit_prepared.result tt c.commit_prepared.ensures

pub returns-in-None : goal.returns-in-None
returns-in-None g c = makes_on _ _ _ c.commit.result tt c.commit.ensures
