-- What the seats keep.
use Rattle.std.specs.Prelude.{◌≡◌, ℕ, true, List, Option, Some, None, slice_get, option_and_then, is_some}
use Rattle.std.specs.FinMap as finmap
use Rattle.gtid_text.specs.declared.Gtid.{Gtid}
use Rattle.rows.specs.declared.change.Transaction.{Transaction}
use Rattle.apply_channel.specs.Channels.{ChannelValue, Received}
use Rattle.replica_core.specs.declared.event.Spot.{Spot}
use Rattle.replica_core.specs.State.{Seats}
use Rattle.replica_core.specs.Machine.{is_seat}

-- the entry at a place
abbrev pub entry_of : List ChannelValue → Spot → Option Received
entry_of channels spot = option_and_then (λ channel. slice_get channel.received spot.place) (slice_get channels spot.channel)

-- its transaction, if its GTID is not executed
abbrev pub txn_of : List ChannelValue → Spot → Option Transaction
txn_of channels spot = option_and_then (λ e. e.txn) (entry_of channels spot)

-- a seat has a place with this entry
abbrev pub HasEntry : List ChannelValue → Seats → ℕ → Received → Type 0
HasEntry channels seats seat e = (spot : Spot) × (finmap.get seats seat ≡ Some spot) × (entry_of channels spot ≡ Some e)

-- a busy seat is one of the 64, its place has its transaction, and no other seat has a place of that GTID
pub record AreSeated (channels : List ChannelValue) (seats : Seats) : Type 0 where
  pub number : (seat : ℕ) (spot : Spot) → finmap.get seats seat ≡ Some spot → is_seat seat ≡ true
  pub busy : (seat : ℕ) (spot : Spot) → finmap.get seats seat ≡ Some spot → is_some (txn_of channels spot) ≡ true
  pub once : (a b : ℕ) (e f : Received) → HasEntry channels seats a e → HasEntry channels seats b f → e.gtid ≡ f.gtid → a ≡ b

-- no seat has a place of this GTID
abbrev pub IsUnowned : List ChannelValue → Seats → Gtid → Type 0
IsUnowned channels seats g = (seat : ℕ) (e : Received) → HasEntry channels seats seat e → e.gtid ≡ g → ⊥

-- a place that a seat may take: it has its transaction, and no seat has a place of its GTID
pub record MayHave (channels : List ChannelValue) (seats : Seats) (spot : Spot) : Type 0 where
  pub entry : Received
  pub at : entry_of channels spot ≡ Some entry
  pub waits : is_some entry.txn ≡ true
  pub free : IsUnowned channels seats entry.gtid

-- a seat that is freed, if any, is one of the 64
abbrev pub IsFreeable : Option ℕ → Type 0
IsFreeable None = Unit {0}
IsFreeable (Some seat) = is_seat seat ≡ true

-- the seats without one
abbrev pub freed_of : Option ℕ → Seats → Seats
freed_of None seats = seats
freed_of (Some seat) seats = finmap.remove seats seat
