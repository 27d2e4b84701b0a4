-- A channel: what a replica has received from one source, in places from 0. (MySQL 8.0 Reference Manual, "MySQL Multi-Source Replication".)
use Rattle.std.specs.Prelude.{◌≡◌, ℕ, zero, suc, Bool, false, ◌&&◌, nat_le, cond, List, [], ◌∷◌, ◌++◌, Option, Some, None, map, take, length, slice_get, position, find, is_none, is_some, option_and_then, if◌then◌else◌}
use Rattle.std.specs.List.{list_all, range_with_len}
use Rattle.std.specs.Option.{option_map_or}
use Rattle.std.specs.Ordering.{nat_cmp, eq_by_cmp}
use Rattle.std.specs.Cmp.Lexicographic.{slice_cmp}
use Rattle.std.specs.FinSet as set
use Rattle.rows.specs.declared.schema.Table.{Table}
use Rattle.rows.specs.declared.change.Transaction.{Transaction}
use Rattle.rows.specs.Conflicts.{conflicts}
use Rattle.gtid_text.specs.declared.Gtid.{Gtid}
use Rattle.gtid_text.specs.Gtids.{same_gtid}
use Rattle.journal.specs.declared.Entry.{Entry}
use Rattle.gtid_set.specs.Sets.{Gtids}

-- a received entry; an executed one has no transaction
pub record Received : Type 0 where
  pub gtid : Gtid
  pub txn : Option Transaction

pub record ChannelValue : Type 0 where
  pub name : List ℕ
  pub preserve : Bool
  pub stopped : Bool
  pub asked : Option Gtids
  pub received : List Received

-- a channel with the schema of its transactions, by which keys are compared
pub record Keyed : Type 0 where
  pub schema : List Table
  pub channel : ChannelValue

-- a channel that has received nothing
abbrev pub new_channel : List ℕ → Bool → ChannelValue
new_channel name preserve = record { name = name; preserve = preserve; stopped = false; asked = None; received = [] }

-- a GTID is at a place, with its transaction if it is not executed
abbrev pub IsPlace : Keyed → ℕ → Gtid → Option Transaction → Type 0
IsPlace c place gtid txn = slice_get c.channel.received place ≡ Some (record { gtid = gtid; txn = txn })

abbrev pub IsNoPlace : Keyed → ℕ → Type 0
IsNoPlace c place = slice_get c.channel.received place ≡ None

-- the transaction at a place, if the GTID there is not executed
abbrev pub txn_at : List Received → ℕ → Option Transaction
txn_at received place = option_and_then (λ e. e.txn) (slice_get received place)

-- an entry that is not executed and shares a key with a transaction
abbrev pub holds_back : List Table → Transaction → Received → Bool
holds_back schema t e = option_map_or (λ u. conflicts schema u t) e.txn false

-- the least earlier place that is not executed and shares a key
abbrev pub blocker : List Table → List Received → ℕ → Option ℕ
blocker schema received place = option_and_then (λ t. position (holds_back schema t) (take place received)) (txn_at received place)

-- a place that is not executed and has no blocker
abbrev pub is_ready : List Table → List Received → ℕ → Bool
is_ready schema received place = is_some (txn_at received place) && is_none (blocker schema received place)

-- the least such place from this one on
abbrev pub next_ready : List Table → List Received → ℕ → Option ℕ
next_ready schema received from = find (λ place. nat_le from place && is_ready schema received place) (range_with_len 0 (length received))

-- the least earlier place that is not executed
abbrev pub first_waiting : List Received → ℕ → Option ℕ
first_waiting received place = position (λ e. is_some e.txn) (take place received)

-- every entry is executed
abbrev pub are_settled : List Received → Bool
are_settled received = list_all (λ e. is_none e.txn) received

-- an entry once a GTID is executed
abbrev pub settle : Gtid → Received → Received
settle gtid e = cond (same_gtid e.gtid gtid) (record e { txn = None }) e

-- the list with the element at a place changed
abbrev pub map_at : {X : Type 0} → ℕ → (X → X) → List X → List X
map_at n f [] = []
map_at zero f (x ∷ xs) = f x ∷ xs
map_at (suc n) f (x ∷ xs) = x ∷ map_at n f xs

-- a channel once a GTID is executed
abbrev pub settle_channel : Gtid → ChannelValue → ChannelValue
settle_channel gtid c = record c { received = map (settle gtid) c.received }

-- an entry without its transaction
abbrev pub as_executed : Received → Received
as_executed e = record e { txn = None }

-- a channel once the entry at a place is executed
abbrev pub settle_at : ℕ → ChannelValue → ChannelValue
settle_at place c = record c { received = map_at place as_executed c.received }

-- a channel with one entry more
abbrev pub with_received : Received → ChannelValue → ChannelValue
with_received e c = record c { received = c.received ++ e ∷ [] }

-- an executed entry
abbrev pub executed_gtid : Gtid → Received
executed_gtid gtid = record { gtid = gtid; txn = None }

-- an entry as it is kept: an executed one without its transaction
abbrev pub received_as : Bool → Entry → Received
received_as executed entry = record { gtid = entry.gtid; txn = (if executed then None else Some entry.txn) }

-- a channel with one entry more, executed or not
abbrev pub with_entry : Bool → Entry → Keyed → Keyed
with_entry executed entry k = record k { channel = with_received (received_as executed entry) k.channel }

-- a channel that is stopped, or not
abbrev pub with_stopped : Bool → ChannelValue → ChannelValue
with_stopped flag c = record c { stopped = flag }

-- a channel that has asked with a set
abbrev pub with_asked : Gtids → ChannelValue → ChannelValue
with_asked asked c = record c { asked = Some asked }

-- the GTIDs of a channel's own list
abbrev pub received_gtids : List Received → Gtids
received_gtids received = set.from_list (map (λ e. e.gtid) received)

-- the greatest number of entries that a channel receives
unfoldable pub most_received : ℕ
most_received = 4294967294

abbrev pub is_full : ChannelValue → Bool
is_full channel = nat_le most_received (length channel.received)

-- two names are the same, byte for byte
abbrev pub same_name : List ℕ → List ℕ → Bool
same_name a b = eq_by_cmp (slice_cmp nat_cmp) a b
