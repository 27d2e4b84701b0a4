use Rattle.std.proofs.Common.{◌≡◌, map, drop}
use Rattle.slab.specs.Slab.{slab_len}
use Rattle.dependency_graph.specs.Kept.{point_of, keys_at, IsKept}
use Rattle.dependency_graph.specs.Ready.{IsListed}
use Rattle.dependency_graph.proofs.graph.settle.Given as goal

abbrev pub invariant-settling : goal.invariant-settling
invariant-settling l = record {
  kept : IsKept l.dropped l.nodes.items l.chains (drop l.i (keys_at l.nodes.items l.at));
  same : map point_of l.nodes.items ≡ map point_of l.initial.nodes.items;
  listed : IsListed l.dropped l.initial.nodes.items l.initial.ready → IsListed l.dropped l.nodes.items l.ready;
}

abbrev pub decreases-settling : goal.decreases-settling
decreases-settling l = slab_len l.chains.edges
