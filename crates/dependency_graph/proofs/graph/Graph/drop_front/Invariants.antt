use Rattle.std.proofs.Common.{◌≡◌, length}
use Rattle.dependency_graph.specs.Graphs.{drop_finished}
use Rattle.dependency_graph.specs.Kept.{points}
use Rattle.dependency_graph.specs.Held.{IsHeld}
use Rattle.dependency_graph.proofs.graph.Graph.drop_front.Given as goal

abbrev pub invariant-loop-self : goal.invariant-loop-self
invariant-loop-self l = record {
  goes : drop_finished (points l.self-inside.dropped l.self-inside.nodes.items) ≡ drop_finished (points l.initial.self-inside.dropped l.initial.self-inside.nodes.items);
  held : IsHeld l.self-inside.dropped l.self-inside.nodes.items l.self-inside.chains l.self-inside.ready;
}

abbrev pub decreases-loop-self : goal.decreases-loop-self
decreases-loop-self l = length l.self-inside.nodes.items
