-- When an event has an error in place of a reply, and which.
use Rattle.std.specs.Prelude.{◌≡◌, ◌≤◌, ℕ, Bool, true, false, Option, Some, None, option_map, slice_get}
use Rattle.std.specs.FinSet as set
use Rattle.gtid_set.specs.declared.fault.SetFault.{SetFault}
use Rattle.gtid_set.specs.declared.fault.SetFault.TheVariants.{Memory}
use Rattle.gtid_text.specs.declared.Gtid.{Gtid}
use Rattle.gtid_set.specs.Sets.{Gtids, gtid, source_count, most_sources}
use Rattle.journal.specs.declared.Entry.{Entry}
use Rattle.journal.specs.Journals.{previous_after_purge}
use Rattle.journal.specs.Faults.{IsPurgedFault}
use Rattle.gtid_set.specs.Full.{IsFaultOf}
use Rattle.apply_channel.specs.Full.{gtids_with}
use Rattle.replica_core.specs.declared.event.Event.{Event}
use Rattle.replica_core.specs.declared.event.Event.TheVariants as event
use Rattle.replica_core.specs.declared.event.Reply.{Reply}
use Rattle.replica_core.specs.declared.event.Reply.TheVariants.{NameTaken, ChannelsFull, Opened, NoChannel, Ask, NotPositioned, NotInSchema, ChannelFull, Received, NoSeat, SeatBusy, NoPlace, Stopped, Done, OwnedBy, Blocked, Taken, SeatIdle, Early, RowRefused, Committed, RolledBack, Restarted, NumbersUsedUp, LocalRefused, TooMany, Purged, Shown}
use Rattle.replica_core.specs.State.{Site, State}
use Rattle.replica_core.specs.Machine.{Step, step, ask, held, next_number}

-- ---- the set that an event makes

-- the set with which a channel would ask
abbrev pub ask_set : ℕ → State → Option Gtids
ask_set c s = option_map (ask s) (slice_get s.channels c)

-- the executed set with one GTID more
abbrev pub executed_with : State → Gtid → Gtids
executed_with s g = set.insert s.executed g

-- the received set of a channel with one entry more
abbrev pub received_set : ℕ → Entry → State → Option Gtids
received_set c entry s = option_map (gtids_with entry) (slice_get s.channels c)

-- the executed set with the GTID that a seat holds
abbrev pub committed_set : ℕ → State → Option Gtids
committed_set seat s = option_map (λ h. executed_with s h.gtid) (held s seat)

-- the executed set with the next GTID of the own UUID
abbrev pub numbered_set : Site → State → Option Gtids
numbered_set site s = option_map (λ n. executed_with s (gtid site.own n)) (next_number site s)

-- the set that an event makes, if it makes one
abbrev pub set_made_by : Site → State → Event → Option Gtids
set_made_by site s (event.Position c) = ask_set c s
set_made_by site s (event.Receive c entry) = received_set c entry s
set_made_by site s (event.Commit seat) = committed_set seat s
set_made_by site s (event.Local changes) = numbered_set site s
set_made_by site s (event.Purge k) = Some (previous_after_purge k s.journal)
set_made_by site s _ = None

-- ---- faults

-- out of memory only if the set, if one is made, has not too many sources
abbrev pub HasRoomFor : SetFault → Option Gtids → Type 0
HasRoomFor Memory (Some made) = source_count made ≤ most_sources
HasRoomFor _ _ = Unit {0}

-- out of memory, or the set, if one is made, would have too many sources or intervals
abbrev pub IsFaultIn : SetFault → Option Gtids → Type 0
IsFaultIn f None = f ≡ Memory
IsFaultIn f (Some made) = IsFaultOf f made

-- a reply that allocates
abbrev pub allocates : Reply → Bool
allocates NameTaken = false
allocates ChannelsFull = false
allocates (Opened c) = true
allocates NoChannel = false
allocates (Ask s) = true
allocates NotPositioned = false
allocates (NotInSchema fault) = false
allocates ChannelFull = false
allocates (Received place) = true
allocates NoSeat = false
allocates (SeatBusy g) = false
allocates NoPlace = false
allocates Stopped = false
allocates (Done g) = false
allocates (OwnedBy seat) = false
allocates (Blocked place) = false
allocates (Taken g) = false
allocates SeatIdle = false
allocates (Early place) = false
allocates (RowRefused g fault) = true
allocates (Committed g) = true
allocates (RolledBack g) = false
allocates Restarted = false
allocates NumbersUsedUp = false
allocates (LocalRefused fault) = true
allocates (TooMany there) = false
allocates (Purged s) = true
allocates (Shown s) = true

-- Why an event has an error. Besides copies and parts of sets of the old state it makes one set at most; a Purge makes its own by adding
-- the GTIDs of the entries one after another.
abbrev pub IsCause : SetFault → Site → State → Event → Type 0
IsCause f site s (event.OpenChannel name preserve) = IsFaultIn f None
IsCause f site s (event.Position c) = IsFaultIn f (ask_set c s)
IsCause f site s (event.Receive c entry) = IsFaultIn f (received_set c entry s)
IsCause f site s (event.Take seat c p) = IsFaultIn f None
IsCause f site s (event.Commit seat) = IsFaultIn f (committed_set seat s)
IsCause f site s (event.Rollback seat) = IsFaultIn f None
IsCause f site s (event.Restart c) = IsFaultIn f None
IsCause f site s (event.Local changes) = IsFaultIn f (numbered_set site s)
IsCause f site s (event.Purge k) = IsPurgedFault f k s.journal
IsCause f site s event.Look = IsFaultIn f None

-- a fault in place of a reply: of one that allocates
pub record IsFault (Cause : Type 0) (answer : Step) : Type 0 where
  pub cause : Cause
  pub instead : allocates answer.0 ≡ true

-- a fault in place of this step
abbrev pub IsStepFault : SetFault → Site → State → Event → Type 0
IsStepFault f site s e = IsFault (IsCause f site s e) (step site s e)

-- out of memory only if the set that the next event makes, if there is one, has not too many sources
abbrev pub HasRoomAt : SetFault → Site → State → Option Event → Type 0
HasRoomAt f site s None = Unit {0}
HasRoomAt f site s (Some e) = HasRoomFor f (set_made_by site s e)

-- a fault of the next event, if there is one; a failed allocation may come before its step
abbrev pub IsFaultAt : SetFault → Site → State → Option Event → Type 0
IsFaultAt f site s None = Unit {0}
IsFaultAt f site s (Some e) = IsCause f site s e
