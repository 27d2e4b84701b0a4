use Rattle.std.proofs.Common.{◌≤◌, take, drop}
use Rattle.dependency_graph.specs.Chains.{HasRoom}
use Rattle.dependency_graph.specs.Kept.{LinksAll, CountsAll}
use Rattle.dependency_graph.proofs.graph.link.Given as goal

abbrev pub invariant-loop-key : goal.invariant-loop-key
invariant-loop-key l = record {
  few : l.waits ≤ l.key-index;
  room : HasRoom l.chains (drop l.key-index l.keys);
  links : LinksAll l.fn.chains l.chains (take l.key-index l.keys) l.node;
  counts : CountsAll l.fn.chains (take l.key-index l.keys) l.node l.waits;
}
