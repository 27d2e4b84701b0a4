use Rattle.applier.proofs.GoingOn.{goes_further}
use Rattle.applier.proofs.work.commit_taken.Goals as goal

pub returns-in_err-gtid : goal.returns-in_err-gtid
returns-in_err-gtid g c = goes_further _ _ _ c.loop.invariant c.commit.ensures

pub returns-in-Committed : goal.returns-in-Committed
returns-in-Committed g c = goes_further _ _ _ c.loop.invariant c.commit.ensures

pub returns-in_default : goal.returns-in_default
returns-in_default g c = goes_further _ _ _ c.loop.invariant c.commit.ensures

pub loop-preserved : goal.loop-preserved
loop-preserved g c = goes_further _ _ _ c.loop.invariant c.commit.ensures

pub returns-in_err-roll_back : goal.returns-in_err-roll_back
returns-in_err-roll_back g c = goes_further _ _ _ c.loop.invariant c.roll_back.ensures

pub returns : goal.returns
returns g c = goes_further _ _ _ c.loop.invariant c.roll_back.ensures
