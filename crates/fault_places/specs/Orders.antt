-- Channels that preserve commit order and bring transactions in opposite orders. A server with several workers and
-- replica_preserve_commit_order=ON may then hang: each channel waits for the other to commit first.
-- (MySQL 8.0 Reference Manual, "replica_preserve_commit_order".)
use Rattle.std.specs.Prelude.{◌≡◌, ℕ, ◌+◌, nat_lt, Bool, false, List, [], ◌∷◌, ◌++◌, Option, Some, None, option_map, find, codes, if◌then◌else◌}
use Rattle.std.specs.List.{position_from}
use Rattle.std.specs.BTreeMap.{BTreeMap, get}
use Rattle.std.specs.FinSet as set
use Rattle.gtid_text.specs.declared.Gtid.{Gtid}
use Rattle.gtid_text.specs.Gtids.{gtid_cmp, same_gtid}
use Rattle.gtid_text.specs.Canonical.{gtid_text}
use Rattle.gtid_set.specs.Sets.{Gtids}
use Rattle.journal.specs.declared.Entry.{Entry}
use Rattle.journal.specs.Journals.{JournalValue}
use Rattle.txn_journal.specs.BundleStates.{BundleValue}
use Rattle.txn_journal.specs.declared.bundle.BundleChannel.{BundleChannel}
use Rattle.world.specs.Search.{or_next}
use Rattle.fault_places.specs.declared.orders.Inversion.{Inversion}
use Rattle.fault_places.specs.declared.orders.InvertedPair.{InvertedPair}
use Rattle.fault_places.specs.Channels.{entries_of, label_at}
use Rattle.fault_places.specs.Places.{bare_places}

-- the numbers of the channels that preserve commit order; the first of these channels has number n
abbrev pub preserving : ℕ → List BundleChannel → List ℕ
preserving n [] = []
preserving n (c ∷ cs) = if c.preserve then n ∷ preserving (n + 1) cs else preserving (n + 1) cs

-- the index of the entry of a GTID. Those of the opening set are executed from the start: nothing waits for them, so they have none
abbrev pub position_in : Gtids → List Entry → Gtid → Option ℕ
position_in opened es g = if set.contains opened g then None else position_from (λ e. same_gtid g e.gtid) 0 es

-- the table has the index of each GTID
abbrev pub ArePositions : Gtids → List Entry → BTreeMap Gtid ℕ → Type 0
ArePositions opened es table = (g : Gtid) → get gtid_cmp table g ≡ position_in opened es g

-- ---- two transactions

-- an index is greater than p
abbrev pub is_after : ℕ → Option ℕ → Bool
is_after p None = false
is_after p (Some q) = nat_lt p q

-- the first of these entries whose GTID has an index greater than p in the other journal
abbrev pub first_after : (Gtid → Option ℕ) → ℕ → List Entry → Option Gtid
first_after place p es = option_map (λ e. e.gtid) (find (λ e. is_after p (place e.gtid)) es)

abbrev pub inversion_by : (Gtid → Option ℕ) → List Entry → Entry → Option ℕ → Option Inversion
inversion_by place seen e None = None
inversion_by place seen e (Some p) = option_map (λ g. record { earlier = g; later = e.gtid }) (first_after place p seen)

-- an entry, and the first entry before it (`seen`) that the other journal has after it
abbrev pub inversion_at : (Gtid → Option ℕ) → List Entry → Entry → Option Inversion
inversion_at place seen e = inversion_by place seen e (place e.gtid)

-- the first entry of the list with such an entry before it
abbrev pub inversion_from : (Gtid → Option ℕ) → List Entry → List Entry → Option Inversion
inversion_from place seen [] = None
inversion_from place seen (e ∷ es) = or_next (inversion_at place seen e) (inversion_from place (seen ++ e ∷ []) es)

-- ---- two channels

abbrev pub pair_from : ℕ → ℕ → Option Inversion → Option InvertedPair
pair_from m n None = None
pair_from m n (Some found) = Some (record { first = m; second = n; inversion = found })

-- the first of these channels that brings two transactions in the opposite order to channel m, whose indexes are given
abbrev pub inverted_with : (Gtid → Option ℕ) → List JournalValue → ℕ → List ℕ → Option InvertedPair
inverted_with place journals m [] = None
inverted_with place journals m (n ∷ ns) = or_next (pair_from m n (inversion_from place [] (entries_of journals n))) (inverted_with place journals m ns)

-- the first pair of these channels that bring two transactions in opposite orders
abbrev pub first_inverted : Gtids → List JournalValue → List ℕ → Option InvertedPair
first_inverted opened journals [] = None
first_inverted opened journals (m ∷ ms) = or_next (inverted_with (position_in opened (entries_of journals m)) journals m ms) (first_inverted opened journals ms)

-- the first such pair of the channels that preserve commit order
abbrev pub inverted_pair : BundleValue → Option InvertedPair
inverted_pair b = first_inverted b.opened b.journals (preserving 0 b.channels)

-- ---- the text

-- the two channels, and what may happen
abbrev pub warning : List BundleChannel → InvertedPair → List ℕ
warning channels found =
    codes "  " ++ label_at channels found.first ++ codes " and " ++ label_at channels found.second
    ++ codes " preserve commit order and have these two transactions in opposite orders: a server with several workers and replica_preserve_commit_order=ON may hang there\n"

-- the warning, and the places of both transactions
abbrev pub inverted_text : List (List ℕ) → List BundleChannel → Option InvertedPair → List ℕ
inverted_text lines channels None = []
inverted_text lines channels (Some found) =
    warning channels found ++ bare_places (gtid_text found.inversion.earlier) lines ++ bare_places (gtid_text found.inversion.later) lines
