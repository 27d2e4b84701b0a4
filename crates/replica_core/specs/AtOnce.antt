-- An entry that a channel receives, and that a seat takes and commits as soon as it is there.
use Rattle.std.specs.Prelude.{◌≡◌, ◌≤◌, ◌⊎◌, ℕ, true, false, [], ◌∷◌, Some, Ok, length, slice_get, is_none}
use Rattle.std.specs.FinSet as set
use Rattle.gtid_set.specs.declared.fault.SetFault.{SetFault}
use Rattle.gtid_set.specs.Sets.{source_count, most_sources}
use Rattle.rows.specs.Apply.{Rows, apply}
use Rattle.rows.specs.Fits.{Fits}
use Rattle.journal.specs.declared.Entry.{Entry}
use Rattle.apply_channel.specs.Channels.{ChannelValue, are_settled, is_full}
use Rattle.replica_core.specs.declared.event.Event.TheVariants.{Receive, Take, Commit}
use Rattle.replica_core.specs.declared.event.Reply.{Reply}
use Rattle.replica_core.specs.State.{Site, State, Replica}
use Rattle.replica_core.specs.Machine.{is_seat, receive, commit, after, execute}
use Rattle.replica_core.specs.Faults.{IsFault, IsFaultIn, HasRoomFor, received_set, committed_set, executed_with}
use Rattle.replica_core.specs.Draining.{NothingIsOwned}

-- a channel receives an entry, and a seat takes a place
abbrev pub received_and_taken : Site → ℕ → ℕ → ℕ → Entry → State → State
received_and_taken site seat c p e s = after site s (Receive c e ∷ Take seat c p ∷ [])

-- a channel receives an entry, and a seat takes a place and commits it
abbrev pub received_and_committed : Site → ℕ → ℕ → ℕ → Entry → State → State
received_and_committed site seat c p e s = after site s (Receive c e ∷ Take seat c p ∷ Commit seat ∷ [])

-- an entry is executed, and no channel has received it
pub record IsOnlyExecuted (site : Site) (e : Entry) (s t : State) : Type 0 where
  pub rows : Rows
  pub applied : apply site.schema e.txn s.rows ≡ Ok rows
  pub now : t ≡ execute s e.gtid e.txn rows

-- the states in which a failed allocation leaves it: as it was, or received and taken, or executed without being received
abbrev pub IsLeft : Site → ℕ → ℕ → ℕ → Entry → State → State → Type 0
IsLeft site seat c p e s t = (t ≡ s) ⊎ ((t ≡ received_and_taken site seat c p e s) ⊎ IsOnlyExecuted site e s t)

-- a fault of the first event, or of the last
abbrev pub IsFaultAtOnce : SetFault → Site → ℕ → ℕ → ℕ → Entry → State → Type 0
IsFaultAtOnce f site seat c p e s =
    IsFault (IsFaultIn f (received_set c e s)) (receive site c e s)
    ⊎ IsFault (IsFaultIn f (committed_set seat (received_and_taken site seat c p e s))) (commit site seat (received_and_taken site seat c p e s))

-- out of memory only if the set that one of the two makes has not too many sources
abbrev pub HasRoomAtOnce : SetFault → Site → ℕ → ℕ → ℕ → Entry → State → Type 0
HasRoomAtOnce f site seat c p e s = HasRoomFor f (received_set c e s) ⊎ HasRoomFor f (committed_set seat (received_and_taken site seat c p e s))

-- the reply to the first event, and the state after the last
pub record IsAtOnce (r : Replica) (seat c p : ℕ) (e : Entry) (reply : Reply) (t : State) : Type 0 where
  pub replied : reply ≡ (receive r.site c e r.state).0
  pub state : t ≡ received_and_committed r.site seat c p e r.state

-- ---- when it needs no waiting

-- a channel that runs would receive its next entry at this place, and all that it received is executed
pub record IsNext (channel : ChannelValue) (p : ℕ) : Type 0 where
  pub asked : is_none channel.asked ≡ false
  pub runs : channel.stopped ≡ false
  pub room : is_full channel ≡ false
  pub last : p ≡ length channel.received
  pub settled : are_settled channel.received ≡ true

-- a channel has asked, and has room for one entry more
pub record IsReceiving (r : Replica) (c : ℕ) : Type 0 where
  pub channel : ChannelValue
  pub at : slice_get r.state.channels c ≡ Some channel
  pub asked : is_none channel.asked ≡ false
  pub room : is_full channel ≡ false

-- no seat has a place, the schema takes the entry, and its GTID is new, and the executed set has room for it
pub record IsReadyAtOnce (r : Replica) (seat c p : ℕ) (e : Entry) : Type 0 where
  pub channel : ChannelValue
  pub at : slice_get r.state.channels c ≡ Some channel
  pub next : IsNext channel p
  pub one : is_seat seat ≡ true
  pub idle : NothingIsOwned r.state
  pub fits : Fits r.site.schema e.txn
  pub new : set.contains r.state.executed e.gtid ≡ false
  pub room : source_count (executed_with r.state e.gtid) ≤ most_sources
