use Rattle.applier.proofs.GoingOn.{goes_further}
use Rattle.applier.proofs.work.try_place.Goals as goal

pub returns-in-Taken : goal.returns-in-Taken
returns-in-Taken g c = goes_further _ _ _ c.take.ensures.work c.commit_taken.ensures
