use Rattle.history.proofs.Chains.{chains_decide}
use Rattle.history.proofs.histories.chains_decide.Goals as goal

pub returns : goal.returns
returns c = chains_decide
