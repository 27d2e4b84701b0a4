-- A replica as it is opened, and what it keeps.
use Rattle.std.specs.Prelude.{◌≡◌, ℕ, true, List, Option, Some, None, All, slice_get}
use Rattle.std.specs.FinSet as set
use Rattle.rows.specs.declared.schema.Table.{Table}
use Rattle.rows.specs.Database.{Database}
use Rattle.rows.specs.declared.change.Transaction.{Transaction}
use Rattle.gtid_set.specs.Sets.{Gtids}
use Rattle.replica_core.specs.State.{State, Seats, Replica, entry_at}
use Rattle.replica_core.specs.Seated.{AreSeated, MayHave}
use Rattle.replica_core.specs.Kept.{ChannelsValue, IsKept, AreKept}
use Rattle.replica_core.specs.Machine.{Step, opening, is_seat, take_place, take_seat}
use Rattle.gtid_text.specs.declared.Gtid.{Gtid}
use Rattle.apply_channel.specs.Channels.{Keyed}
use Rattle.replica_core.specs.declared.event.Reply.{Reply}
use Rattle.replica_core.specs.declared.event.Reply.TheVariants.{Taken}

-- what a replica keeps
pub record IsCore (schema : List Table) (channels : ChannelsValue) (executed : Gtids) (seats : Seats) : Type 0 where
  pub same : channels.schema ≡ schema
  pub kept : AreKept schema executed channels.list
  pub seated : AreSeated channels.list seats

-- a replica with this executed set, which is purged, these rows and nothing else
abbrev pub new_replica_with : ℕ → Database → Gtids → Replica
new_replica_with own rows executed = record { site = record { own = own; schema = rows.schema }; state = opening executed rows.rows }

-- a replica with these rows and nothing else
abbrev pub new_replica : ℕ → Database → Replica
new_replica own rows = new_replica_with own rows set.empty

abbrev pub IsNotAtCore : Replica → ℕ → Type 0
IsNotAtCore r channel = slice_get r.state.channels channel ≡ None

-- a channel is at a number, and its entries are kept
pub record IsAtCore (r : Replica) (channel : ℕ) (k : Keyed) : Type 0 where
  pub value : slice_get r.state.channels channel ≡ Some k.channel
  pub schema : k.schema ≡ r.site.schema
  pub kept : All (IsKept r.site.schema r.state.executed) k.channel.received

-- a Take that takes this GTID
abbrev pub Takes : Replica → ℕ → ℕ → ℕ → Gtid → Type 0
Takes r seat channel place g =
    (take_place r.site seat channel place r.state ≡ (Taken g, take_seat seat channel place r.state)) × (is_seat seat ≡ true) × MayHave r.state.channels r.state.seats (record { channel = channel; place = place })

-- an event that changes nothing, with this reply
abbrev pub Refuses : (State → Step) → Replica → Reply → Type 0
Refuses event r reply = event r.state ≡ (reply, r.state)

-- a GTID is at a place of a channel, with its transaction if it is not executed
abbrev pub IsEntryAt : Replica → ℕ → ℕ → Gtid → Option Transaction → Type 0
IsEntryAt r channel place g t = entry_at r.state (record { channel = channel; place = place }) ≡ Some (record { gtid = g; txn = t })

abbrev pub IsNoEntry : Replica → ℕ → ℕ → Type 0
IsNoEntry r channel place = entry_at r.state (record { channel = channel; place = place }) ≡ None
