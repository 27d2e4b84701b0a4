-- Faithful runs of a world of sources, and what they result in.
use Rattle.std.specs.Prelude.{◌≡◌, ℕ, ◌<◌, true, false, List, [], ◌∷◌, ◌++◌, Option, Some, Ok}
use Rattle.std.specs.List.{AllByRecursion}
use Rattle.std.specs.FinMap as map
use Rattle.std.specs.FinSet as set
use Rattle.gtid_set.specs.Sets.{Gtids, gtid}
use Rattle.rows.specs.Apply.{Rows}
use Rattle.rows.specs.declared.change.Key.{Key}
use Rattle.journal.specs.declared.Entry.{Entry}
use Rattle.journal.specs.Journals.{JournalValue}
use Rattle.auto_position.specs.Sending.{sent}
use Rattle.apply_channel.specs.Channels.{ChannelValue}
use Rattle.replica_core.specs.declared.event.Event.{Event}
use Rattle.replica_core.specs.declared.event.Event.TheVariants.{Receive, Local}
use Rattle.replica_core.specs.declared.event.Reply.{Reply}
use Rattle.replica_core.specs.declared.event.Reply.TheVariants.{Received, Committed}
use Rattle.replica_core.specs.State.{State, Site}
use Rattle.replica_core.specs.Machine.{step, replies, after}
use Rattle.history.specs.Sources.{World, in_order, content, rows_of, AreKeysSound, IsSound, IsClosedBySource}
use Rattle.history.specs.SourceJournals.{IsFaithfulBySource}
use Rattle.history.specs.LatestWriter.{last_writer}
use Rattle.convergence.specs.Faithful as ordered
use Rattle.convergence.specs.Faithful.{start_with, Since, since_after, asked_with}

-- a start: a set that is closed by source, with the rows that it denotes
pub record IsOpeningBySource (world : World) (executed : Gtids) (rows : Rows) : Type 0 where
  pub closed : IsClosedBySource world (set.contains executed)
  pub stands_for : rows_of world (set.contains executed) ≡ Ok rows

-- These are a prefix of what some journal that is faithful by source sends to one that asks with this set.
pub record WasSentBySource (world : World) (ask : Gtids) (entries : List Entry) : Type 0 where
  pub journal : JournalValue
  pub own : Option ℕ
  pub rest : List Entry
  pub faithful : IsFaithfulBySource world journal
  pub front : sent journal ask own ≡ Ok (entries ++ rest)

-- What is required of one event: what is received was sent, and what commits here is what the world has under that GTID, with
-- every smaller number of this server executed.
abbrev pub IsFaithfulStep : World → Site → State → Since → Event → Reply → Type 0
IsFaithfulStep world site s since (Receive c entry) (Received p) = (ask : Gtids) → asked_with s c ≡ Some ask → WasSentBySource world ask (since c ++ entry ∷ [])
IsFaithfulStep world site s since (Local txn) (Committed g) =
    (content world g ≡ Some txn) × ((n : ℕ) → 0 < n → n < g.number → set.contains s.executed (gtid site.own n) ≡ true)
IsFaithfulStep world site s since event reply = Unit {0}

abbrev pub IsFaithfulFrom : World → Site → State → Since → List Event → Type 0
IsFaithfulFrom world site s since [] = Unit {0}
IsFaithfulFrom world site s since (e ∷ es) =
    IsFaithfulStep world site s since e (step site s e).0
    × IsFaithfulFrom world site (step site s e).1 (since_after e (step site s e).0 since) es

-- a run from a start
abbrev pub IsFaithfulRun : World → Site → Gtids → Rows → List Event → Type 0
IsFaithfulRun world site executed rows events = IsFaithfulFrom world site (start_with executed rows) (λ c. []) events

-- If the keys are sound, a run that is faithful by source and number is faithful in the order. So the laws of convergence hold of it.
abbrev pub FaithfulInOrder : Type 0
FaithfulInOrder = (world : World) (site : Site) (executed : Gtids) (rows : Rows) (events : List Event) → AreKeysSound world
    → IsFaithfulRun world site executed rows events → ordered.IsFaithfulRun (in_order world) site executed rows events

-- What a replica holds is what its executed set denotes, in the words of sources and numbers: the set is closed by source, and under each
-- key is what the writer with the greatest number left.
pub record IsMergedBySource (world : World) (s : State) : Type 0 where
  pub closed : IsClosedBySource world (set.contains s.executed)
  pub rows : rows_of world (set.contains s.executed) ≡ Ok s.rows
  pub writers : (k : Key) → map.get s.rows k ≡ last_writer world (set.contains s.executed) k
  pub running : AllByRecursion (λ (c : ChannelValue). c.stopped ≡ false) s.channels
  pub journal : IsFaithfulBySource world s.journal

-- What comes after a faithful run of a sound world is merged, and no commit was refused for its rows.
abbrev pub RunsOfSourcesMerge : Type 0
RunsOfSourcesMerge = (world : World) (site : Site) (executed : Gtids) (rows : Rows) (events : List Event)
    → site.schema ≡ world.schema → IsSound world → IsOpeningBySource world executed rows → IsFaithfulRun world site executed rows events
    → IsMergedBySource world (after site (start_with executed rows) events) × AllByRecursion ordered.IsNotRefused (replies site (start_with executed rows) events)

-- Two such runs with equal executed sets hold equal rows.
abbrev pub EqualSetsOfSources : Type 0
EqualSetsOfSources = (world : World) (a b : Site) (A B : Gtids) (x y : Rows) (es fs : List Event)
    → a.schema ≡ world.schema → b.schema ≡ world.schema → IsSound world → IsOpeningBySource world A x → IsOpeningBySource world B y
    → IsFaithfulRun world a A x es → IsFaithfulRun world b B y fs
    → (after a (start_with A x) es).executed ≡ (after b (start_with B y) fs).executed
    → (after a (start_with A x) es).rows ≡ (after b (start_with B y) fs).rows
