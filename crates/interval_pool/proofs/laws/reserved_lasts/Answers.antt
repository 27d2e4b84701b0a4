use Rattle.interval_pool.proofs.laws.reserved_lasts.Goals as goal
use Rattle.interval_pool.proofs.Stepping.{lasts}

pub returns : goal.returns
returns c = λ p n steps room are less needs. lasts n p steps room are less needs
