use Rattle.convergence.proofs.There.{equal_sets_of_sources}
use Rattle.convergence.proofs.sources.equal_sets_of_sources.Goals as goal

pub returns : goal.returns
returns c = equal_sets_of_sources
