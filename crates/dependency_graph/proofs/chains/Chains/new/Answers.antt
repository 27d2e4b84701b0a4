use Rattle.dependency_graph.proofs.Entries.{new_holds}
use Rattle.dependency_graph.proofs.chains.Chains.new.Goals as goal

pub returns : goal.returns
returns c = new_holds _ c.new-2.ensures.empty
