-- What a graph keeps, with the list of the nodes that may go.
use Rattle.std.specs.Prelude.{ℕ, List, []}
use Rattle.dependency_graph.specs.Kept.{IsKept, IsReserved}
use Rattle.dependency_graph.specs.Ready.{IsListed, IsListedWithRoom}
use Rattle.dependency_graph.specs.declared.graph.GraphNode.{GraphNode}
use Rattle.dependency_graph.specs.declared.chains.Chains.{Chains}
use Rattle.dependency_graph.specs.declared.ready.Ready.{Ready}

pub record IsHeld (before : ℕ) (nodes : List GraphNode) (c : Chains) (r : Ready) : Type 0 where
  pub kept : IsKept before nodes c []
  pub listed : IsListed before nodes r

-- with room for the last of these nodes
pub record IsRoom (before : ℕ) (nodes : List GraphNode) (c : Chains) (r : Ready) : Type 0 where
  pub reserved : IsReserved before nodes c
  pub listed : IsListedWithRoom before reserved.old r
