use Rattle.history.proofs.Chains.{chains_are_exact}
use Rattle.history.proofs.histories.chains_are_exact.Goals as goal

pub returns : goal.returns
returns c = chains_are_exact
