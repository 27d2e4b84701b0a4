-- The merge theorem for networks: no premise is about journals.
use Rattle.std.specs.Prelude.{◌≡◌, ℕ, true, List, Some, slice_get}
use Rattle.std.specs.List.{AllByRecursion}
use Rattle.std.specs.FinSet as set
use Rattle.auto_position.specs.declared.PositionFault.{PositionFault}
use Rattle.auto_position.specs.declared.PositionFault.TheVariants.{PurgedRequired, ReplicaHasMore, Set}
use Rattle.replica_core.specs.State.{Site}
use Rattle.replica_core.specs.Machine as machine
use Rattle.history.specs.World.{IsSound}
use Rattle.convergence.specs.Faithful.{start_with, IsFaithfulRun, IsMerged}
use Rattle.network.specs.declared.event.NetworkEvent.{NetworkEvent}
use Rattle.network.specs.declared.event.NetworkReply.{NetworkReply}
use Rattle.network.specs.declared.event.NetworkReply.TheVariants.{Refused}
use Rattle.network.specs.Nodes.{Node, ids_distinct}
use Rattle.network.specs.Machine.{replies, after}
use Rattle.network.specs.Runs.{NetworkRun, AreApart, IsRunInTurn, end, run_replies, run_locals, run_world, run_of, extension}

abbrev pub IsNotMore : PositionFault → Type 0
IsNotMore (PurgedRequired gtids) = Unit {0}
IsNotMore (ReplicaHasMore gtids) = ⊥
IsNotMore (Set fault) = Unit {0}

-- no Position is refused because the replica has more GTIDs of the source than the source itself
abbrev pub HasNoMore : NetworkReply → Type 0
HasNoMore (Refused fault) = IsNotMore fault
HasNoMore reply = Unit {0}

-- what never changes at a node of this UUID
abbrev pub site_of : NetworkRun → ℕ → Site
site_of run own = record { own = own; schema = run.schema }

-- What a run leaves, and its last replies.
pub record AreMerged (run : NetworkRun) (nodes : List Node) (replies : List NetworkReply) : Type 0 where
  -- the world of the local commits is sound
  pub sound : IsSound (run_world run)
  -- the run of each node is faithful to it
  pub faithful : (i own : ℕ) → slice_get run.ids i ≡ Some own → IsFaithfulRun (run_world run) (site_of run own) set.empty run.rows (run_of run i)
  -- the run of each node ends in what the node holds
  pub reached : (i own : ℕ) (node : Node) → slice_get run.ids i ≡ Some own → slice_get nodes i ≡ Some node
      → node.replica.state ≡ machine.after (site_of run own) (start_with set.empty run.rows) (run_of run i)
  -- what each node holds is merged, and so its own journal is faithful
  pub merged : (i : ℕ) (node : Node) → slice_get nodes i ≡ Some node → IsMerged (run_world run) node.replica.state
  -- nodes with equal executed sets hold equal rows
  pub equal : (i k : ℕ) (a b : Node) → slice_get nodes i ≡ Some a → slice_get nodes k ≡ Some b
      → a.replica.state.executed ≡ b.replica.state.executed → a.replica.state.rows ≡ b.replica.state.rows
  pub no_more : AllByRecursion HasNoMore replies

-- After every run of a network of different UUIDs in which what is committed by Local comes after what shares a key with it.
abbrev pub RingsMerge : Type 0
RingsMerge = (run : NetworkRun) → ids_distinct run.ids ≡ true → IsRunInTurn run → AreMerged run (end run) (run_replies run)

-- Of nodes that a run has left: what further events leave is merged, with these replies.
abbrev pub LeavesMerged : List Node → List NetworkEvent → List NetworkReply → List Node → Type 0
LeavesMerged old events replies new = (run : NetworkRun) → ids_distinct run.ids ≡ true → old ≡ end run
    → IsRunInTurn (extension run events) → AreMerged (extension run events) new replies

-- A run in two parts: what is left after the second part, whatever call made it.
abbrev pub RingsGoOn : Type 0
RingsGoOn = (nodes : List Node) (events : List NetworkEvent) → LeavesMerged nodes events (replies nodes events) (after nodes events)

-- If what is committed by Local at different nodes shares no key, it is in turn: a node has executed what it committed itself.
abbrev pub ApartIsInTurn : Type 0
ApartIsInTurn = (run : NetworkRun) → ids_distinct run.ids ≡ true → AreApart run.schema (run_locals run) → IsRunInTurn run
