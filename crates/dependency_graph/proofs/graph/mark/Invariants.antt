use Rattle.std.proofs.Common.{◌≡◌, map, drop}
use Rattle.dependency_graph.specs.Kept.{point_of, keys_at, IsKept}
use Rattle.dependency_graph.specs.Ready.{IsListed}
use Rattle.dependency_graph.proofs.graph.mark.Given as goal

abbrev pub invariant-loop-i : goal.invariant-loop-i
invariant-loop-i l = record {
  kept : IsKept l.dropped l.nodes.items l.chains (drop l.i (keys_at l.nodes.items l.at));
  same : map point_of l.nodes.items ≡ map point_of l.initial.nodes.items;
  listed : IsListed l.dropped l.initial.nodes.items l.initial.ready → IsListed l.dropped l.nodes.items l.ready;
}
