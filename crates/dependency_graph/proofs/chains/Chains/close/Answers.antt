use Rattle.std.proofs.Common.{None}
use Rattle.dependency_graph.proofs.Entries.{ends_updated}
use Rattle.dependency_graph.proofs.chains.Chains.close.Goals as goal

pub returns-clause-ends : goal.returns-clause-ends
returns-clause-ends c = ends_updated c.args.self.now.table.entries c.swap_remove.new.self.entries c.args.key.now None c.swap_remove.ensures.updates.0
