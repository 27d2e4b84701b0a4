use Rattle.interval_pool.proofs.laws.cells_are_within_lists.Goals as goal
use Rattle.interval_pool.proofs.Within.{stand_within}

pub returns : goal.returns
returns c = λ p lists all. stand_within p lists all
