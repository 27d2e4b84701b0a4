use Rattle.convergence.proofs.There.{runs_of_sources_merge}
use Rattle.convergence.proofs.sources.runs_of_sources_merge.Goals as goal

pub returns : goal.returns
returns c = runs_of_sources_merge
