-- What a replica shows of itself. The three names are those of MySQL's variables (MySQL 8.0 Reference Manual, "Global Transaction ID System Variables"); the lines are our own.
use Rattle.std.specs.Prelude.{◌≡◌, ℕ, Bool, true, false, List, [], ◌∷◌, ◌++◌, map, Some, codes, decimal, flat_map}
use Rattle.std.specs.FinMap.{FinMap, entries, from_entries, get}
use Rattle.gtid_text.specs.declared.Gtid.{Gtid}
use Rattle.gtid_text.specs.Gtids.{gtid_cmp}
use Rattle.gtid_text.specs.Canonical.{gtid_text}
use Rattle.gtid_set.specs.Sets.{Gtids}
use Rattle.txn_journal.specs.WrittenSets.{set_text}
use Rattle.apply_channel.specs.Channels.{ChannelValue, received_gtids}
use Rattle.replica_core.specs.State.{State, owned, owned_by}

-- a name and a set
abbrev pub named_set : List ℕ → Gtids → List ℕ
named_set name s = name ++ 32 ∷ set_text s ++ 10 ∷ []

-- ---- what the seats own

-- the GTIDs of a list of seats, each with its seat
abbrev pub owners_of : List (ℕ × Gtid) → FinMap gtid_cmp ℕ
owners_of pairs = from_entries (map (λ p. (p.1, p.0)) pairs)

-- each owned GTID with its seat, in the order of GTIDs
abbrev pub owned_in_order : State → List (Gtid × ℕ)
owned_in_order s = entries (owners_of (owned s))

-- a GTID and the number of its seat
abbrev pub owner_word : Gtid × ℕ → List ℕ
owner_word p = gtid_text p.0 ++ codes "#" ++ decimal p.1

-- these joined by commas, `-` for none
abbrev pub owned_word : List (Gtid × ℕ) → List ℕ
owned_word [] = codes "-"
owned_word (p ∷ ps) = owner_word p ++ flat_map (λ q. codes "," ++ owner_word q) ps

abbrev pub owned_line : List (Gtid × ℕ) → List ℕ
owned_line owners = codes "gtid_owned " ++ owned_word owners ++ 10 ∷ []

-- a GTID that a seat owns is there with that seat
abbrev pub EachOwnerIsListed : State → Type 0
EachOwnerIsListed s = (seat : ℕ) (g : Gtid) → owned_by s seat ≡ Some g → get (owners_of (owned s)) g ≡ Some seat

-- ---- the channels

-- whether a channel is stopped
abbrev pub run_word : Bool → List ℕ
run_word true = codes "stopped"
run_word false = codes "running"

-- its name, whether it is stopped, and what was received on it
abbrev pub channel_line : ChannelValue → List ℕ
channel_line c = codes "channel " ++ c.name ++ 32 ∷ run_word c.stopped ++ 32 ∷ set_text (received_gtids c.received) ++ 10 ∷ []

-- ---- the whole

-- the executed set, the purged set, what is owned, and each channel in the order of their numbers
abbrev pub status_text : State → List ℕ
status_text s =
    named_set (codes "gtid_executed") s.executed ++ named_set (codes "gtid_purged") s.journal.previous
    ++ owned_line (owned_in_order s) ++ flat_map channel_line s.channels
