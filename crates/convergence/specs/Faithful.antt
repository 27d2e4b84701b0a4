-- Faithful runs, and what they result in.
use Rattle.std.specs.Prelude.{◌≡◌, ℕ, ◌==◌, true, false, if◌then◌else◌, List, [], ◌∷◌, ◌++◌, Option, Some, Ok, slice_get, option_and_then}
use Rattle.std.specs.List.{AllByRecursion}
use Rattle.std.specs.FinMap as map
use Rattle.std.specs.FinSet as set
use Rattle.gtid_set.specs.Sets.{Gtids}
use Rattle.rows.specs.Apply.{Rows}
use Rattle.rows.specs.declared.change.Key.{Key}
use Rattle.journal.specs.declared.Entry.{Entry}
use Rattle.journal.specs.Journals.{JournalValue}
use Rattle.apply_channel.specs.Channels.{ChannelValue}
use Rattle.replica_core.specs.declared.event.Event.{Event}
use Rattle.replica_core.specs.declared.event.Event.TheVariants.{Receive, Position, Local, OpenChannel}
use Rattle.replica_core.specs.declared.event.Reply.{Reply}
use Rattle.replica_core.specs.declared.event.Reply.TheVariants.{Opened, Received, Ask, Committed, RowRefused}
use Rattle.replica_core.specs.State.{State, Site}
use Rattle.replica_core.specs.Machine.{opening, step, replies, after}
use Rattle.history.specs.World.{OrderedWorld, content, rows_of, Precedes, IsSound, IsClosed}
use Rattle.rows.specs.declared.change.Transaction.{Transaction}
use Rattle.rows.specs.Conflicts.{conflicts}
use Rattle.gtid_text.specs.declared.Gtid.{Gtid}
use Rattle.history.specs.LastWriter.{last_writer}
use Rattle.history.specs.Faithful.{IsFaithful}
use Rattle.auto_position.specs.Sending.{sent}

-- a replica on which this set was executed, with these rows
abbrev pub start_with : Gtids → Rows → State
start_with = opening

-- a start: a closed set, with the rows that it denotes
pub record IsOpening (world : OrderedWorld) (executed : Gtids) (rows : Rows) : Type 0 where
  pub closed : IsClosed world (set.contains executed)
  pub stands_for : rows_of world (set.contains executed) ≡ Ok rows

-- what each channel has received since its last Position
abbrev pub Since : Type 0
Since = ℕ → List Entry

abbrev pub since_after : Event → Reply → Since → Since
since_after (Receive c entry) (Received p) since d = if d == c then since c ++ entry ∷ [] else since d
since_after (Position c) (Ask asked) since d = if d == c then [] else since d
since_after (OpenChannel name preserve) (Opened c) since d = if d == c then [] else since d
since_after event reply since d = since d

-- These are a prefix of what some faithful journal sends to one that asks with this set.
pub record WasSent (world : OrderedWorld) (ask : Gtids) (entries : List Entry) : Type 0 where
  pub journal : JournalValue
  pub own : Option ℕ
  pub rest : List Entry
  pub faithful : IsFaithful world journal
  pub front : sent journal ask own ≡ Ok (entries ++ rest)

-- the set that a channel has asked with
abbrev pub asked_with : State → ℕ → Option Gtids
asked_with s c = option_and_then (λ (channel : ChannelValue). channel.asked) (slice_get s.channels c)

-- What is required of one event: what is received was sent, and what commits here is what the world has under that GTID, with
-- all executed that comes before it in the world's order and conflicts with it.
abbrev pub IsFaithfulStep : OrderedWorld → Site → State → Since → Event → Reply → Type 0
IsFaithfulStep world site s since (Receive c entry) (Received p) = (ask : Gtids) → asked_with s c ≡ Some ask → WasSent world ask (since c ++ entry ∷ [])
IsFaithfulStep world site s since (Local txn) (Committed g) =
    (content world g ≡ Some txn) × ((h : Gtid) (t : Transaction) → Precedes world.order (h, t) (g, txn) → conflicts world.schema t txn ≡ true → set.contains s.executed h ≡ true)
IsFaithfulStep world site s since event reply = Unit {0}

abbrev pub IsFaithfulFrom : OrderedWorld → Site → State → Since → List Event → Type 0
IsFaithfulFrom world site s since [] = Unit {0}
IsFaithfulFrom world site s since (e ∷ es) =
    IsFaithfulStep world site s since e (step site s e).0
    × IsFaithfulFrom world site (step site s e).1 (since_after e (step site s e).0 since) es

-- a run from a start
abbrev pub IsFaithfulRun : OrderedWorld → Site → Gtids → Rows → List Event → Type 0
IsFaithfulRun world site executed rows events = IsFaithfulFrom world site (start_with executed rows) (λ c. []) events

abbrev pub IsNotRefused : Reply → Type 0
IsNotRefused (RowRefused g fault) = ⊥
IsNotRefused reply = Unit {0}

-- What a replica holds is what its executed set denotes.
pub record IsMerged (world : OrderedWorld) (s : State) : Type 0 where
  pub closed : IsClosed world (set.contains s.executed)
  pub rows : rows_of world (set.contains s.executed) ≡ Ok s.rows
  pub writers : (k : Key) → map.get s.rows k ≡ last_writer world (set.contains s.executed) k
  pub running : AllByRecursion (λ (c : ChannelValue). c.stopped ≡ false) s.channels
  pub journal : IsFaithful world s.journal

-- What comes after a faithful run of a sound world is merged, and no commit was refused for its rows.
abbrev pub FaithfulRunsMerge : Type 0
FaithfulRunsMerge = (world : OrderedWorld) (site : Site) (executed : Gtids) (rows : Rows) (events : List Event)
    → site.schema ≡ world.schema → IsSound world → IsOpening world executed rows → IsFaithfulRun world site executed rows events
    → IsMerged world (after site (start_with executed rows) events) × AllByRecursion IsNotRefused (replies site (start_with executed rows) events)

-- Two such runs with equal executed sets hold equal rows.
abbrev pub EqualSetsEqualRows : Type 0
EqualSetsEqualRows = (world : OrderedWorld) (a b : Site) (A B : Gtids) (x y : Rows) (es fs : List Event)
    → a.schema ≡ world.schema → b.schema ≡ world.schema → IsSound world → IsOpening world A x → IsOpening world B y
    → IsFaithfulRun world a A x es → IsFaithfulRun world b B y fs
    → (after a (start_with A x) es).executed ≡ (after b (start_with B y) fs).executed
    → (after a (start_with A x) es).rows ≡ (after b (start_with B y) fs).rows

-- A prefix of a faithful run is faithful.
abbrev pub FrontsAreFaithful : Type 0
FrontsAreFaithful = (world : OrderedWorld) (site : Site) (executed : Gtids) (rows : Rows) (earlier later : List Event)
    → IsFaithfulRun world site executed rows (earlier ++ later) → IsFaithfulRun world site executed rows earlier

-- A faithful run in two parts: what comes after the second part is merged, whatever call made it, and none of its commits was
-- refused for its rows.
abbrev pub RunsGoOn : Type 0
RunsGoOn = (world : OrderedWorld) (site : Site) (executed : Gtids) (rows : Rows) (earlier events : List Event) (s : State)
    → site.schema ≡ world.schema → IsSound world → IsOpening world executed rows
    → s ≡ after site (start_with executed rows) earlier → IsFaithfulRun world site executed rows (earlier ++ events)
    → IsMerged world (after site s events) × AllByRecursion IsNotRefused (replies site s events)
