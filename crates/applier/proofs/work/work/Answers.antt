use Rattle.applier.proofs.GoingOn.{goes_further}
use Rattle.applier.proofs.work.work.Goals as goal

pub loop-preserved-in-Ok-Committed : goal.loop-preserved-in-Ok-Committed
loop-preserved-in-Ok-Committed g c = goes_further _ _ _ c.loop.invariant c.try_place.ensures

pub loop-preserved-in-Ok-Passed : goal.loop-preserved-in-Ok-Passed
loop-preserved-in-Ok-Passed g c = goes_further _ _ _ c.loop.invariant c.try_place.ensures

pub loop-preserved : goal.loop-preserved
loop-preserved g c = goes_further _ _ _ c.loop.invariant c.try_place.ensures

pub returns-in-Err : goal.returns-in-Err
returns-in-Err g c = goes_further _ _ _ c.loop.invariant c.try_place.ensures
