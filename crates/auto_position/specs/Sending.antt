-- What a source sends of its journal to a replica that asks with a set. (MySQL 8.0 Reference Manual, "GTID Auto-Positioning".)
use Rattle.std.specs.Prelude.{◌≡◌, ℕ, ◌+◌, Bool, not, ◌==◌, map, List, [], ◌∷◌, Option, Some, None, Result, Ok, Err, slice_get, if◌then◌else◌}
use Rattle.std.specs.List.{filter}
use Rattle.std.specs.List.Sorted.{IsStrictlyIncreasing}
use Rattle.std.specs.FinSet as set
use Rattle.gtid_set.specs.declared.fault.SetFault.{SetFault}
use Rattle.gtid_set.specs.Full.{IsMemoryOr}
use Rattle.gtid_set.specs.Edges.{HasEdges, IsCrowd}
use Rattle.gtid_set.specs.Sets.{Gtids, only}
use Rattle.journal.specs.declared.Entry.{Entry}
use Rattle.journal.specs.Journals.{JournalValue, whole}
use Rattle.journal.specs.Edges.{HasEndsOf, HasEdgesOf}
use Rattle.auto_position.specs.declared.PositionFault.{PositionFault}
use Rattle.auto_position.specs.declared.PositionFault.TheVariants.{PurgedRequired, ReplicaHasMore, Set}

-- the source's own GTIDs that are asked with, if its UUID is given
abbrev pub own_of : Gtids → Option ℕ → Gtids
own_of ask None = set.empty
own_of ask (Some own) = only ask own

-- whether an entry isn't asked with
abbrev pub is_wanted : Gtids → Entry → Bool
is_wanted ask entry = not (set.contains ask entry.gtid)

-- the places of the entries that pass a test, the first of them being at this place
abbrev pub places_from : (Entry → Bool) → ℕ → List Entry → List ℕ
places_from test place [] = []
places_from test place (e ∷ es) = if test e then place ∷ places_from test (place + 1) es else places_from test (place + 1) es

-- the numbers of the entries of a source, in journal order
abbrev pub numbers_of : ℕ → List Entry → List ℕ
numbers_of source entries = map (λ e. e.gtid.number) (filter (λ e. e.gtid.source == source) entries)

-- What is sent: nothing if what is missing was purged, nor if the replica has GTIDs of this source that it has no record of (that these are
-- named, and are tested second, is our own); else the entries that aren't asked with, in journal order.
abbrev pub sent : JournalValue → Gtids → Option ℕ → Result (List Entry) PositionFault
sent journal ask own =
    if not (set.is_subset journal.previous ask) then Err (PurgedRequired (set.difference journal.previous ask))
    else if not (set.is_subset (own_of ask own) (whole journal)) then Err (ReplicaHasMore (set.difference (own_of ask own) (whole journal)))
    else Ok (filter (is_wanted ask) journal.entries)

-- these entries are at these places
abbrev pub AreAt : List Entry → List ℕ → List Entry → Type 0
AreAt entries [] [] = Unit {0}
AreAt entries [] (e ∷ es) = ⊥
AreAt entries (p ∷ ps) [] = ⊥
AreAt entries (p ∷ ps) (e ∷ es) = (slice_get entries p ≡ Some e) × AreAt entries ps es

-- the places of what is sent, ascending
pub record IsPlan (entries : List Entry) (places : List ℕ) (sending : Result (List Entry) PositionFault) : Type 0 where
  pub sends : List Entry
  pub sent_is : sending ≡ Ok sends
  pub at : AreAt entries places sends
  pub rising : IsStrictlyIncreasing places

-- the edges of the sets that a source makes for its answer are among these places
pub record HasPlanEdges (journal : JournalValue) (ask : Gtids) (places : Gtids) : Type 0 where
  pub asked : HasEdges places ask
  pub journal_edges : HasEdgesOf places journal

-- the set of some entries was not made: out of memory, or these have too many intervals
abbrev pub IsEntriesFault : List Entry → SetFault → Type 0
IsEntriesFault entries f = IsMemoryOr ⊥ (IsCrowd (λ places. HasEndsOf places entries)) f

-- A set was not made on the way: out of memory, or the intervals of the set that is asked with and of the journal's sets and entries are
-- together too many. None of them has a source that neither the set that is asked with nor the previous set has.
abbrev pub IsPlanFault : JournalValue → Gtids → SetFault → Type 0
IsPlanFault journal ask f = IsMemoryOr ⊥ (IsCrowd (HasPlanEdges journal ask)) f

-- the refusal is that of the definition, or a set was not made
abbrev pub IsRefusal : PositionFault → JournalValue → Gtids → Option ℕ → Type 0
IsRefusal (Set fault) journal ask own = IsPlanFault journal ask fault
IsRefusal (PurgedRequired s) journal ask own = sent journal ask own ≡ Err (PurgedRequired s)
IsRefusal (ReplicaHasMore s) journal ask own = sent journal ask own ≡ Err (ReplicaHasMore s)
