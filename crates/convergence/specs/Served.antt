-- What a replica has executed once it was served.
use Rattle.std.specs.Prelude.{◌≡◌, ℕ, ◌==◌, Bool, true, false, if◌then◌else◌, List, [], ◌∷◌, ◌++◌, Option, Some, Ok, slice_get}
use Rattle.std.specs.List.{list_any}
use Rattle.std.specs.FinSet as set
use Rattle.gtid_set.specs.Sets.{Gtids}
use Rattle.journal.specs.declared.Entry.{Entry}
use Rattle.journal.specs.Journals.{JournalValue, gtids_of, whole}
use Rattle.apply_channel.specs.Channels.{ChannelValue}
use Rattle.apply_channel.specs.Channels as channels
use Rattle.replica_core.specs.declared.event.Event.{Event}
use Rattle.replica_core.specs.declared.event.Event.TheVariants.{Receive, Position, Local}
use Rattle.replica_core.specs.declared.event.Reply.{Reply}
use Rattle.replica_core.specs.declared.event.Reply.TheVariants.{Received, Ask, Committed}
use Rattle.replica_core.specs.State.{State, Site}
use Rattle.replica_core.specs.Machine.{step, after}
use Rattle.history.specs.Join.{join}
use Rattle.auto_position.specs.Sending.{sent}

-- each received GTID is executed
abbrev pub IsDrained : State → Type 0
IsDrained s = (c p : ℕ) (channel : ChannelValue) (e : channels.Received) → slice_get s.channels c ≡ Some channel → slice_get channel.received p ≡ Some e → set.contains s.executed e.gtid ≡ true

abbrev pub accepted_entries : Event → Reply → List Entry
accepted_entries (Receive c entry) (Received p) = entry ∷ []
accepted_entries event reply = []

-- the entries that are received in a run
abbrev pub received_in : Site → State → List Event → List Entry
received_in site s [] = []
received_in site s (e ∷ es) = accepted_entries e (step site s e).0 ++ received_in site (step site s e).1 es

abbrev pub IsNoLocalCommit : Event → Reply → Type 0
IsNoLocalCommit (Local txn) (Committed g) = ⊥
IsNoLocalCommit event reply = Unit {0}

abbrev pub NoLocalCommits : Site → State → List Event → Type 0
NoLocalCommits site s [] = Unit {0}
NoLocalCommits site s (e ∷ es) = IsNoLocalCommit e (step site s e).0 × NoLocalCommits site (step site s e).1 es

-- From a state whose received GTIDs are all executed: if what is received is what a journal sends, and nothing commits here, then once
-- every received GTID is executed the executed set is the join with the whole journal.
abbrev pub ServedIsJoined : Type 0
ServedIsJoined = (site : Site) (s : State) (events : List Event) (journal : JournalValue) (own : Option ℕ) (all : List Entry)
    → IsDrained s → sent journal s.executed own ≡ Ok all → received_in site s events ≡ all → NoLocalCommits site s events
    → IsDrained (after site s events)
    → (after site s events).executed ≡ join s.executed (whole journal)

-- ---- several channels, and local commits

abbrev pub on_channel : ℕ → Event → List Entry → List Entry
on_channel c (Receive d entry) entries = if d == c then entries else []
on_channel c event entries = []

-- the entries that one channel receives in a run
abbrev pub received_on : ℕ → Site → State → List Event → List Entry
received_on c site s [] = []
received_on c site s (e ∷ es) = on_channel c e (accepted_entries e (step site s e).0) ++ received_on c site (step site s e).1 es

abbrev pub committed_here : Event → Reply → List Entry
committed_here (Local txn) (Committed g) = record { gtid = g; txn = txn } ∷ []
committed_here event reply = []

-- the transactions that are committed by Local in a run
abbrev pub local_commits : Site → State → List Event → List Entry
local_commits site s [] = []
local_commits site s (e ∷ es) = committed_here e (step site s e).0 ++ local_commits site (step site s e).1 es

-- A channel is positioned, and from then on it receives all that the journal sends to one that asks so. It received nothing before.
pub record WasServed (site : Site) (s : State) (events : List Event) (c : ℕ) (journal : JournalValue) : Type 0 where
  pub own : Option ℕ
  pub before : List Event
  pub later : List Event
  pub ask : Gtids
  pub all : List Entry
  pub parts : events ≡ before ++ Position c ∷ later
  pub nothing_before : received_on c site s before ≡ []
  pub asked : (step site (after site s before) (Position c)).0 ≡ Ask ask
  pub all_sent : sent journal ask own ≡ Ok all
  pub all_received : received_on c site (step site (after site s before) (Position c)).1 later ≡ all

-- a journal for each of some channels
abbrev pub Plan : Type 0
Plan = List (ℕ × JournalValue)

abbrev pub is_planned : Plan → ℕ → Bool
is_planned plan c = list_any (λ p. p.0 == c) plan

-- all that the journals of a plan have executed
abbrev pub whole_sets : Plan → Gtids
whole_sets [] = set.empty
whole_sets (p ∷ plan) = join (whole p.1) (whole_sets plan)

-- From a state whose received GTIDs are all executed: if each planned channel is served its journal whole, and no other receives anything,
-- then once every received GTID is executed the executed set is what it was, the local commits and all whole journals together.
abbrev pub ServedAreJoined : Type 0
ServedAreJoined = (site : Site) (s : State) (events : List Event) (plan : Plan)
    → IsDrained s
    → ((i : ℕ) (p : ℕ × JournalValue) → slice_get plan i ≡ Some p → WasServed site s events p.0 p.1)
    → ((c : ℕ) → is_planned plan c ≡ false → received_on c site s events ≡ [])
    → IsDrained (after site s events)
    → (after site s events).executed ≡ join s.executed (join (gtids_of (local_commits site s events)) (whole_sets plan))
