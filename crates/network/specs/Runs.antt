-- What happens in a run of a network: the events of each node, and what is committed by Local.
use Rattle.std.specs.Prelude.{◌≡◌, ◌≢◌, ℕ, ◌==◌, true, false, if◌then◌else◌, List, [], ◌∷◌, ◌++◌, map, Option, Some, None, Ok, Err, slice_get}
use Rattle.std.specs.Option.{option_map_or}
use Rattle.std.specs.FinSet as set
use Rattle.gtid_set.specs.Sets.{Gtids}
use Rattle.rows.specs.Apply.{Rows}
use Rattle.rows.specs.Conflicts.{conflicts}
use Rattle.rows.specs.declared.schema.Table.{Table}
use Rattle.rows.specs.declared.change.Transaction.{Transaction}
use Rattle.journal.specs.declared.Entry.{Entry}
use Rattle.replica_core.specs.declared.event.Event.{Event}
use Rattle.replica_core.specs.Machine as machine
use Rattle.history.specs.World as ordered
use Rattle.history.specs.World.{OrderedWorld}
use Rattle.convergence.specs.Served.{committed_here}
use Rattle.network.specs.declared.event.NetworkEvent.{NetworkEvent}
use Rattle.network.specs.declared.event.NetworkReply.{NetworkReply}
use Rattle.network.specs.Nodes.{Node, new_nodes}
use Rattle.network.specs.Machine.{Decision, decide, step, replies, after}

-- ---- what each node makes

-- the event that the replica of a node makes
abbrev pub made_at : ℕ → Decision → List Event
made_at i (Err reply) = []
made_at i (Ok m) = if m.node == i then m.event ∷ [] else []

-- the events that the replica of a node makes
abbrev pub events_at : ℕ → List Node → List NetworkEvent → List Event
events_at i nodes [] = []
events_at i nodes (e ∷ es) = made_at i (decide nodes e) ++ events_at i (step nodes e).1 es

-- ---- what is committed by Local

-- what a node commits by Local when it makes an event
abbrev pub local_at : Event → Node → List Entry
local_at e node = committed_here e (machine.step node.replica.site node.replica.state e).0

-- what a decision commits by Local
abbrev pub local_of : List Node → Decision → List Entry
local_of nodes (Err reply) = []
local_of nodes (Ok m) = option_map_or (local_at m.event) (slice_get nodes m.node) []

-- what is committed by Local, at all nodes, in order
abbrev pub locals : List Node → List NetworkEvent → List Entry
locals nodes [] = []
locals nodes (e ∷ es) = local_of nodes (decide nodes e) ++ locals (step nodes e).1 es

-- ---- one writer a key at a time

-- of these, each that conflicts with a transaction is executed
abbrev pub HaveCome : List Table → List Entry → Gtids → Transaction → Type 0
HaveCome schema entries executed t = (i : ℕ) (e : Entry) → slice_get entries i ≡ Some e → conflicts schema e.txn t ≡ true → set.contains executed e.gtid ≡ true

-- what a node commits by Local when it makes an event: of these, the node has executed each that conflicts with it
abbrev pub IsInTurnAt : List Table → List Entry → Event → Option Node → Type 0
IsInTurnAt schema entries event None = Unit {0}
IsInTurnAt schema entries event (Some node) = (i : ℕ) (x : Entry) → slice_get (local_at event node) i ≡ Some x → HaveCome schema entries node.replica.state.executed x.txn

abbrev pub IsInTurn : List Table → List Entry → List Node → Decision → Type 0
IsInTurn schema entries nodes (Err reply) = Unit {0}
IsInTurn schema entries nodes (Ok m) = IsInTurnAt schema entries m.event (slice_get nodes m.node)

-- What is committed by Local comes after all that was committed by Local before, these among it, and conflicts with it: the
-- node has executed that.
abbrev pub AreInTurn : List Table → List Entry → List Node → List NetworkEvent → Type 0
AreInTurn schema entries nodes [] = Unit {0}
AreInTurn schema entries nodes (e ∷ es) =
    IsInTurn schema entries nodes (decide nodes e) × AreInTurn schema (entries ++ local_of nodes (decide nodes e)) (step nodes e).1 es

-- transactions of different sources don't conflict
abbrev pub AreApart : List Table → List Entry → Type 0
AreApart schema entries = (i k : ℕ) (e f : Entry) → slice_get entries i ≡ Some e → slice_get entries k ≡ Some f
    → e.gtid.source ≢ f.gtid.source → conflicts schema e.txn f.txn ≡ false

-- ---- the world of the local commits

-- a transaction under its GTID
abbrev pub pair : Entry → ordered.Entry
pair e = (e.gtid, e.txn)

-- the world of what was committed by Local, in the order of time
abbrev pub world_of : List Table → Rows → List Entry → OrderedWorld
world_of schema rows entries = record { schema = schema; opening_set = set.empty; opening_rows = rows; order = map pair entries }

-- ---- a whole run

-- a run from the opening: a node for each UUID, all with the same rows, and the events
pub record NetworkRun : Type 0 where
  pub ids : List ℕ
  pub schema : List Table
  pub rows : Rows
  pub events : List NetworkEvent

-- the nodes before the first event
abbrev pub start : NetworkRun → List Node
start run = new_nodes run.ids run.schema run.rows

-- the nodes after the last
abbrev pub end : NetworkRun → List Node
end run = after (start run) run.events

abbrev pub run_replies : NetworkRun → List NetworkReply
run_replies run = replies (start run) run.events

abbrev pub run_locals : NetworkRun → List Entry
run_locals run = locals (start run) run.events

abbrev pub run_world : NetworkRun → OrderedWorld
run_world run = world_of run.schema run.rows (run_locals run)

-- one writer a key at a time, from the opening on
abbrev pub IsRunInTurn : NetworkRun → Type 0
IsRunInTurn run = AreInTurn run.schema [] (start run) run.events

-- the events that the replica of a node makes in a run
abbrev pub run_of : NetworkRun → ℕ → List Event
run_of run i = events_at i (start run) run.events

-- the same run with further events
abbrev pub extension : NetworkRun → List NetworkEvent → NetworkRun
extension run events = record run { events = run.events ++ events }
