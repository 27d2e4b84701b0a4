use Rattle.std.proofs.Common.{refl, Some}
use Rattle.dependency_graph.proofs.Entries.{ends_updated, entry_stays}
use Rattle.dependency_graph.proofs.chains.Chains.put_ends.Goals as goal

pub returns-clause-ends : goal.returns-clause-ends
returns-clause-ends c = ends_updated c.args.self.now.table.entries c.replace.new.self.entries c.args.key.now (Some (Some c.args.ends)) c.in-Some.ensures.updates.0

pub returns-clause-stays : goal.returns-clause-stays
returns-clause-stays c = entry_stays c.args.self.now.table.entries c.replace.new.self.entries c.args.key.now (Some (Some c.args.ends)) c.in-Some.ensures.updates.0 refl
