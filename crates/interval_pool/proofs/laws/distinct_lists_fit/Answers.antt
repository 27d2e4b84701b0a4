use Rattle.interval_pool.proofs.laws.distinct_lists_fit.Goals as goal
use Rattle.interval_pool.proofs.Within as within

pub returns : goal.returns
returns c = λ p lists once. within.distinct_stand p lists once
