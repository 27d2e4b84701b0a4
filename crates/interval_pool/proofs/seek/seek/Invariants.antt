use Rattle.interval_pool.specs.Places.{IsPassed}
use Rattle.interval_pool.proofs.seek.seek.Given as goal

abbrev pub invariant-walk : goal.invariant-walk
invariant-walk l = IsPassed l.cells l.heads l.list l.number l.before l.at l.left

abbrev pub decreases-walk : goal.decreases-walk
decreases-walk l = l.left
