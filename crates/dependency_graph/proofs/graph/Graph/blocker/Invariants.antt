use Rattle.std.proofs.Common.{◌≡◌, take}
use Rattle.dependency_graph.specs.Graphs.{least, holds_back}
use Rattle.dependency_graph.proofs.graph.Graph.blocker.Given as goal

abbrev pub invariant-loop-key : goal.invariant-loop-key
invariant-loop-key l = l.least ≡ least (holds_back (take l.key-index l.key-items)) 0 (take l.node l.self)
