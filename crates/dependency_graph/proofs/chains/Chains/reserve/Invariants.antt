use Rattle.std.proofs.Common.{length, take}
use Rattle.std.specs.List.{AllByRecursion}
use Rattle.slab.specs.Slab.{HasRoomFor}
use Rattle.dependency_graph.specs.Chains.{HasEntry, IsSame}
use Rattle.dependency_graph.proofs.chains.Chains.reserve.Given as goal

abbrev pub invariant-loop-key : goal.invariant-loop-key
invariant-loop-key l = record {
  same : IsSame l.fn.self l.self;
  edges : HasRoomFor l.self.edges (length l.keys);
  entries : AllByRecursion (HasEntry l.self) (take l.key-index l.keys);
}
