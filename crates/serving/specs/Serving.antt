-- Runs in which a replica is served journals.
use Rattle.std.specs.Prelude.{◌≡◌, ℕ, ◌+◌, List, [], ◌∷◌, ◌++◌, slice_get, None, Ok}
use Rattle.std.specs.List.{AllByRecursion}
use Rattle.std.specs.Option.{option_map_or}
use Rattle.gtid_set.specs.Sets.{Gtids}
use Rattle.journal.specs.declared.Entry.{Entry}
use Rattle.journal.specs.Journals.{JournalValue}
use Rattle.replica_core.specs.declared.event.Event.{Event}
use Rattle.replica_core.specs.declared.event.Event.TheVariants.{OpenChannel, Position, Receive, Take, Commit, Rollback}
use Rattle.replica_core.specs.declared.event.Reply.TheVariants.{Opened, Ask}
use Rattle.replica_core.specs.State.{Replica}
use Rattle.replica_core.specs.Machine.{step, after}
use Rattle.replica_core.specs.Core.{new_replica_with}
use Rattle.replica_core.specs.Draining.{AreStoppedOrDone}
use Rattle.auto_position.specs.Sending.{sent}
use Rattle.convergence.specs.Served.{received_on}
use Rattle.world.specs.declared.verdict.Verdict.TheVariants.{Sound}
use Rattle.txn_journal.specs.BundleStates.{BundleValue}
use Rattle.txn_journal.specs.declared.bundle.BundleChannel.{BundleChannel}
use Rattle.serving.specs.declared.order.Order.{Order}
use Rattle.serving.specs.declared.receiving.Apply.{Apply}
use Rattle.serving.specs.declared.receiving.Apply.TheVariants.{Later, AtOnce}
use Rattle.serving.specs.Verdicts.{keys_over}

-- what is at these places of a list
abbrev pub pick_entries : List Entry → List ℕ → List Entry
pick_entries entries [] = []
pick_entries entries (p ∷ ps) = option_map_or (λ e. e ∷ pick_entries entries ps) (slice_get entries p) (pick_entries entries ps)

-- a replica after events
abbrev pub run : Replica → List Event → Replica
run r events = record { site = r.site; state = after r.site r.state events }

-- What may come between two entries that a channel receives: if they are applied at once, a take, a commit or a rollback.
abbrev pub IsBetween : Apply → Event → Type 0
IsBetween AtOnce (Take seat c p) = Unit {0}
IsBetween AtOnce (Commit seat) = Unit {0}
IsBetween AtOnce (Rollback seat) = Unit {0}
IsBetween _ _ = ⊥

-- how the entry that a channel has just received at this place is applied
abbrev pub apply_events_at : Apply → ℕ → ℕ → List Event
apply_events_at AtOnce c p = Take 1 c p ∷ Commit 1 ∷ []
apply_events_at Later c p = []

-- an entry for this channel, or what may come between
abbrev pub IsFeed : Apply → ℕ → Event → Type 0
IsFeed apply c (Receive d entry) = d ≡ c
IsFeed apply c event = IsBetween apply event

-- seats take, commit and roll back, if they apply at once, and nothing else happens
pub record Applies (apply : Apply) (r t : Replica) : Type 0 where
  pub events : List Event
  pub between : AllByRecursion (IsBetween apply) events
  pub now : t ≡ run r events

-- a channel receives each of these entries
pub record Receives (apply : Apply) (r : Replica) (c : ℕ) (entries : List Entry) (t : Replica) : Type 0 where
  pub events : List Event
  pub feeds : AllByRecursion (IsFeed apply c) events
  pub now : t ≡ run r events
  pub got : received_on c r.site r.state events ≡ entries

abbrev pub with_opened : Replica → BundleChannel → Replica
with_opened r channel = run r (OpenChannel channel.name channel.preserve ∷ [])

-- a channel is opened under this number and positioned, and this is all that its source sends
pub record Asks (r : Replica) (c : ℕ) (channel : BundleChannel) (journal : JournalValue) (all : List Entry) (t : Replica) : Type 0 where
  pub ask : Gtids
  pub number : (step r.site r.state (OpenChannel channel.name channel.preserve)).0 ≡ Opened c
  pub asked : (step r.site (with_opened r channel).state (Position c)).0 ≡ Ask ask
  pub all_sent : sent journal ask None ≡ Ok all
  pub now : t ≡ run (with_opened r channel) (Position c ∷ [])

-- a channel is opened and positioned, and has received these entries; with those that come later they are all that its source sends
pub record Starts (apply : Apply) (r : Replica) (c : ℕ) (channel : BundleChannel) (journal : JournalValue) (soon later : List Entry) (t : Replica) : Type 0 where
  pub asking : Replica
  pub asks : Asks r c channel journal (soon ++ later) asking
  pub received : Receives apply asking c soon t

-- Each journal on a channel of its own; the first has this number. A channel is opened and positioned, and receives some of what its source
-- sends (all or none, say); then the others are served, and then it receives the rest.
abbrev pub ServesEach : Apply → Replica → ℕ → List BundleChannel → List JournalValue → Replica → Type 0
ServesEach apply r c channels [] t = t ≡ r
ServesEach apply r c [] (j ∷ js) t = ⊥
ServesEach apply r c (ch ∷ channels) (j ∷ js) t =
    (soon : List Entry) × (later : List Entry) × (started : Replica) × (others : Replica)
    × Starts apply r c ch j soon later started × ServesEach apply started (c + 1) channels js others × Receives apply others c later t

-- the replica of a bundle, before it has a channel
abbrev pub opening : BundleValue → Replica
opening b = new_replica_with b.replica b.start b.opened

-- the replica of the bundle has received all that its journals send
abbrev pub IsServed : Apply → BundleValue → Replica → Type 0
IsServed apply b core = ServesEach apply (opening b) 0 b.channels b.journals core

-- the replica of the bundle was served, and each entry was applied on receipt or afterwards: each channel is stopped, or has executed all
-- that it received
pub record IsApplied (b : BundleValue) (core : Replica) : Type 0 where
  pub served : Replica
  pub received : IsServed AtOnce b served
  pub applies : Applies AtOnce served core
  pub ends : AreStoppedOrDone core.state

-- the audit of keys reports Sound, and the replica of the bundle has received all that its journals send
abbrev pub HasReceived : Order → Apply → BundleValue → Replica → Type 0
HasReceived order apply b core = (keys_over order b ≡ Sound) × IsServed apply b core

-- the replica of a bundle whose keys are sound has received all that its journals send, and has applied nothing
abbrev pub IsReady : Order → BundleValue → Replica → Type 0
IsReady order b core = HasReceived order Later b core

-- the replica of a bundle whose keys are sound has received all that its journals send, and may have applied some of it: seats took,
-- committed and rolled back while it came, and afterwards
pub record IsRun (order : Order) (b : BundleValue) (core : Replica) : Type 0 where
  pub apply : Apply
  pub served : Replica
  pub received : HasReceived order apply b served
  pub applies : Applies AtOnce served core
