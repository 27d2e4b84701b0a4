-- Networks without a premise on keys.
use Rattle.std.specs.Prelude.{◌≡◌, ℕ, true, List, Some, slice_get}
use Rattle.std.specs.FinSet as set
use Rattle.rows.specs.Carriers.{AreCarriers}
use Rattle.journal.specs.declared.Entry.{Entry}
use Rattle.replica_core.specs.Machine.{opening}
use Rattle.network.specs.declared.event.NetworkEvent.{NetworkEvent}
use Rattle.network.specs.Nodes.{Node, ids_distinct}
use Rattle.network.specs.Machine.{after}
use Rattle.network.specs.Runs.{NetworkRun, end, run_locals, run_of, extension}
use Rattle.network.specs.Rings.{site_of}
use Rattle.convergence.specs.Logs.{log}
use Rattle.convergence.specs.Exact.{IsOfLog}

-- what the i-th node, of this UUID, has committed in a run
abbrev pub node_log : NetworkRun → ℕ → ℕ → List Entry
node_log run i own = log (site_of run own) (opening set.empty run.rows) (run_of run i)

-- What a run leaves.
pub record AreExact (run : NetworkRun) (nodes : List Node) : Type 0 where
  -- what each node holds is what its log makes of the opening rows
  pub logs : (i own : ℕ) (node : Node) → slice_get run.ids i ≡ Some own → slice_get nodes i ≡ Some node
      → IsOfLog (site_of run own) set.empty run.rows (node_log run i own) node.replica.state
  -- what is in a log was committed by Local, with this content
  pub made : (i own k : ℕ) (e : Entry) → slice_get run.ids i ≡ Some own → slice_get (node_log run i own) k ≡ Some e
      → (m : ℕ) × (slice_get (run_locals run) m ≡ Some e)
  -- no GTID is made twice
  pub once : (i k : ℕ) (e f : Entry) → slice_get (run_locals run) i ≡ Some e → slice_get (run_locals run) k ≡ Some f → e.gtid ≡ f.gtid → i ≡ k
  -- nodes with equal executed sets hold equal rows
  pub equal : (i k : ℕ) (a b : Node) → slice_get nodes i ≡ Some a → slice_get nodes k ≡ Some b
      → a.replica.state.executed ≡ b.replica.state.executed → a.replica.state.rows ≡ b.replica.state.rows

-- After every run of a network of different UUIDs that was opened with rows of tables. Nothing is required of keys.
abbrev pub NetworksAreExact : Type 0
NetworksAreExact = (run : NetworkRun) → ids_distinct run.ids ≡ true → AreCarriers run.schema run.rows → AreExact run (end run)

-- Of nodes that a run has left: what further events leave is exact.
abbrev pub LeavesExact : List Node → List NetworkEvent → List Node → Type 0
LeavesExact old events new = (run : NetworkRun) → ids_distinct run.ids ≡ true → AreCarriers run.schema run.rows → old ≡ end run → AreExact (extension run events) new

-- A run in two parts: what is left after the second part, whatever call made it.
abbrev pub ExactGoesOn : Type 0
ExactGoesOn = (nodes : List Node) (events : List NetworkEvent) → LeavesExact nodes events (after nodes events)
