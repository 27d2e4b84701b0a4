-- How a channel keeps what it has received.
use Rattle.std.specs.Prelude.{◌≡◌, ◌<◌, ℕ, Bool, true, false, ◌&&◌, cond, is_some, is_none, IsSome, length, List, [], ◌∷◌, Option, Some, None, map, slice_get}
use Rattle.std.specs.Map.{lookup}
use Rattle.std.specs.Option.{unwrap_or, option_map_or}
use Rattle.rows.specs.declared.schema.Table.{Table}
use Rattle.rows.specs.declared.change.Key.{Key}
use Rattle.rows.specs.declared.change.Transaction.{Transaction}
use Rattle.rows.specs.WriteSet.{is_among, touches}
use Rattle.gtid_text.specs.declared.Gtid.{Gtid}
use Rattle.gtid_text.specs.Gtids.{same_gtid}
use Rattle.gtid_set.specs.Sets.{Gtids}
use Rattle.dependency_graph.specs.Graphs.{Point}
use Rattle.apply_channel.specs.Slots.{Placed}
use Rattle.apply_channel.specs.Channels.{Received, received_gtids}

abbrev pub received_of : Placed → Received
received_of slot = record { gtid = slot.gtid; txn = slot.txn }

-- the entries in their slots
abbrev pub entries_of : List Placed → List Received
entries_of slots = map received_of slots

-- the keys that a transaction touches; of an executed one any
abbrev pub AreKeysOf : List Table → List Key → Option Transaction → Type 0
AreKeysOf schema keys None = Unit {0}
AreKeysOf schema keys (Some txn) = (k : Key) → is_among keys k ≡ touches schema txn k

-- a node of an entry: finished if it is executed, and else with the keys of its transaction
pub record IsNodeOf (schema : List Table) (p : Point) (e : Received) : Type 0 where
  pub finished : p.finished ≡ is_none e.txn
  pub keys : AreKeysOf schema p.keys e.txn

-- each entry has its node
abbrev pub AreNodesOf : List Table → List Point → List Received → Type 0
AreNodesOf schema [] [] = Unit {0}
AreNodesOf schema [] (e ∷ es) = ⊥
AreNodesOf schema (p ∷ ps) [] = ⊥
AreNodesOf schema (p ∷ ps) (e ∷ es) = IsNodeOf schema p e × AreNodesOf schema ps es

-- an entry of a GTID that is not executed
abbrev pub is_open_of : Gtid → Received → Bool
is_open_of g e = is_some e.txn && same_gtid e.gtid g

-- the entry at a place is one of a GTID that is not executed
abbrev pub is_open_at : Gtid → List Received → ℕ → Bool
is_open_at g es place = option_map_or (is_open_of g) (slice_get es place) false

-- the last place below this one with this GTID, not executed
abbrev pub IsLastOpen : List Received → Gtid → ℕ → Option ℕ → Type 0
IsLastOpen es g end None = (i : ℕ) → i < end → is_open_at g es i ≡ false
IsLastOpen es g end (Some place) = (place < end) × (is_open_at g es place ≡ true) × ((i : ℕ) → place < i → i < end → is_open_at g es i ≡ false)

-- the entry of a GTID in the table of places
abbrev pub entry_of : List (Gtid × Option ℕ) → Gtid → Option (Option ℕ)
entry_of places g = lookup (same_gtid g) places

-- the last place of a GTID in the table of places
abbrev pub place_of : List (Gtid × Option ℕ) → Gtid → Option ℕ
place_of places g = unwrap_or (entry_of places g) None

-- the GTID has an entry in the table
abbrev pub HasPlace : List (Gtid × Option ℕ) → Gtid → Type 0
HasPlace places g = IsSome (entry_of places g)

-- the GTID has an entry, an empty one if it had none, and the others are as they were
abbrev pub IsOpened : Gtid → List (Gtid × Option ℕ) → List (Gtid × Option ℕ) → Type 0
IsOpened gtid old new = (g : Gtid) → entry_of new g ≡ cond (same_gtid gtid g) (Some (place_of old gtid)) (entry_of old g)

-- each slot that is not executed has the place before it with its GTID
abbrev pub AreLinked : List Placed → Type 0
AreLinked slots = (i : ℕ) (s : Placed) → slice_get slots i ≡ Some s → is_some s.txn ≡ true → IsLastOpen (entries_of slots) s.gtid i s.earlier

-- the table has the last place of each GTID that is not executed
abbrev pub AreLast : List Placed → (Gtid → Option ℕ) → Type 0
AreLast slots last = (g : Gtid) → IsLastOpen (entries_of slots) g (length slots) (last g)

-- each place has its node; the places of a GTID are linked; the received set is that of the entries
pub record IsKept (schema : List Table) (slots : List Placed) (places : List (Gtid × Option ℕ)) (graph : List Point) (received : Gtids) : Type 0 where
  pub nodes : AreNodesOf schema graph (entries_of slots)
  pub linked : AreLinked slots
  pub last : AreLast slots (place_of places)
  pub gtids : received ≡ received_gtids (entries_of slots)
