-- Spans kept in a pool, in one list for each source.
use Rattle.std.specs.Prelude.{◌≡◌, ℕ, ◌+◌, ◌≤◌, ◌<◌, Bool, true, not, ◌&&◌, ◌||◌, ◌==◌, ◌≢◌, ◌⊎◌, nat_lt, List, [], ◌∷◌, ◌++◌, length, map, take, drop, Option, Some, None, slice_index_or}
use Rattle.std.specs.List.{list_all, list_any, slice_get}
use Rattle.gtid_text.specs.declared.Gtid.{Gtid}
use Rattle.gtid_text.specs.declared.Span.{Span}
use Rattle.interval_pool.specs.declared.interval.Interval.{Interval}
use Rattle.interval_pool.specs.Intervals.{covers, has as has_number}
use Rattle.interval_pool.specs.Values.{PoolValue, slot_at, is_list, AreAmong, intervals_of, spans, cells_of, first_cell}
use Rattle.gtid_set.specs.declared.sources.SourceList.{SourceList}
use Rattle.gtid_set.specs.declared.cursor.Place.{Place}
use Rattle.gtid_set.specs.Sets.{most_sources, source_count}
use Rattle.gtid_set.specs.Full.{most_intervals}
use Rattle.gtid_set.specs.Spans.{set_of, is_merged, has}
use Rattle.gtid_set.specs.Sweep.{IsListOf, within}
use Rattle.gtid_set.specs.declared.fault.SetFault.{SetFault}
use Rattle.gtid_set.specs.declared.fault.SetFault.TheVariants as faults

-- an interval as a span of a source
abbrev pub span_of : ℕ → Interval → Span
span_of source s = record { source = source; lo = s.lo; hi = s.hi }

abbrev pub interval_of : Span → Interval
interval_of s = record { lo = s.lo; hi = s.hi }

-- the spans of one source, and of sources one after another
abbrev pub spans_in : PoolValue → SourceList → List Span
spans_in p s = map (span_of s.id) (spans p s.list)

abbrev pub spans_of : PoolValue → List SourceList → List Span
spans_of p [] = []
spans_of p (s ∷ ss) = spans_in p s ++ spans_of p ss

-- the source at a place; beyond the last none that has intervals
abbrev pub source_at : List SourceList → ℕ → SourceList
source_at sources i = slice_index_or sources i (record { id = 0; list = 0 })

-- the sources at places
abbrev pub sources_at : List SourceList → List ℕ → List SourceList
sources_at sources order = map (source_at sources) order

abbrev pub are_places : List SourceList → List ℕ → Bool
are_places sources order = list_all (λ i. nat_lt i (length sources)) order

abbrev pub flat : PoolValue → List SourceList → List ℕ → List Span
flat p sources order = spans_of p (sources_at sources order)

-- each source is less than the later ones
abbrev pub are_ascending : List SourceList → Bool
are_ascending [] = true
are_ascending (s ∷ ss) = list_all (λ t. nat_lt s.id t.id) ss && are_ascending ss

-- a source has a list with intervals
abbrev pub is_filled : PoolValue → SourceList → Bool
is_filled p s = is_list p s.list && nat_lt 0 (length (spans p s.list))

-- no two have one list
abbrev pub have_own : List SourceList → Bool
have_own [] = true
have_own (s ∷ ss) = list_all (λ t. not (t.list == s.list)) ss && have_own ss

abbrev pub lists_of : List SourceList → List ℕ
lists_of ss = map (λ s. s.list) ss

-- Sources are ascending, and each has a list of its own, with intervals; the pool has no other lists.
pub record IsKeptIn (p : PoolValue) (sources : List SourceList) (order : List ℕ) : Type 0 where
  pub places : are_places sources order ≡ true
  pub as_many : length order ≡ length sources
  pub few : length order ≤ most_sources
  pub rising : are_ascending (sources_at sources order) ≡ true
  pub filled : list_all (is_filled p) (sources_at sources order) ≡ true
  pub own : have_own (sources_at sources order) ≡ true
  pub known : AreAmong p (lists_of (sources_at sources order))
  pub merged : is_merged (flat p sources order) ≡ true
  pub counted : length order ≡ source_count (set_of (flat p sources order))
  pub small : length (flat p sources order) ≤ most_intervals

-- whether the source at a place is less than another
abbrev pub comes_before : List SourceList → ℕ → ℕ → Bool
comes_before sources id i = nat_lt i (length sources) && nat_lt (source_at sources i).id id

-- the place of a source among others: those before it are less, and those from there on are not
pub record IsSourcePlace (ss : List SourceList) (id at : ℕ) : Type 0 where
  pub bound : at ≤ length ss
  pub before : list_all (λ s. nat_lt s.id id) (take at ss) ≡ true
  pub behind : list_all (λ s. not (nat_lt s.id id)) (drop at ss) ≡ true

-- one of the sources has the number
abbrev pub knows : PoolValue → List SourceList → Gtid → Bool
knows p ss q = list_any (λ s. (q.source == s.id) && has_number (spans p s.list) q.number) ss

-- the source at a place has this identifier, or none is there that has
pub record IsSourceAt (ss : List SourceList) (at id : ℕ) (s : SourceList) : Type 0 where
  pub got : slice_get ss at ≡ Some s
  pub same : s.id ≡ id

abbrev pub IsNoSourceAt : List SourceList → ℕ → ℕ → Type 0
IsNoSourceAt ss at id = (s : SourceList) → slice_get ss at ≡ Some s → s.id ≢ id

-- one of the sources, with this identifier
pub record IsSourceOf (ss : List SourceList) (s : SourceList) (id : ℕ) : Type 0 where
  pub at : ℕ
  pub got : slice_get ss at ≡ Some s
  pub same : s.id ≡ id

abbrev pub are_others : ℕ → List SourceList → Bool
are_others id ss = list_all (λ s. not (id == s.id)) ss

-- ---- changes

-- all lists but one are as they were
abbrev pub KeepsBut : PoolValue → PoolValue → ℕ → Type 0
KeepsBut p q l = (m : ℕ) → m ≢ l → slot_at q m ≡ slot_at p m

abbrev pub HasSameLists : PoolValue → PoolValue → Type 0
HasSameLists p q = (m : ℕ) → slot_at q m ≡ slot_at p m

-- a list more, with these numbers
pub record Lists (p : PoolValue) (l : ℕ) (s : Interval) (q : PoolValue) : Type 0 where
  pub new : slot_at p l ≡ None
  pub now : is_list q l ≡ true
  pub others : KeepsBut p q l
  pub numbers : (n : ℕ) → has_number (spans q l) n ≡ covers s n

-- Why there is no further list: out of memory, or the lists that a caller knows are all that there may be, or their intervals are.
abbrev pub IsListFault : SetFault → PoolValue → Type 0
IsListFault faults.Memory p = Unit {0}
IsListFault faults.PoolFull p = (lists : List ℕ) → AreAmong p lists → (most_intervals ≤ intervals_of p lists) ⊎ (most_intervals ≤ length lists)
IsListFault faults.SourcesFull p = ⊥

-- the spans are joined with one more
pub record Grown (p : PoolValue) (sources : List SourceList) (order : List ℕ) (t : Span) (q : PoolValue) (sources' : List SourceList) (order' : List ℕ) : Type 0 where
  pub kept : IsKeptIn q sources' order'
  pub list : IsListOf (λ g. within t g || has (flat p sources order) g) (flat q sources' order')

-- the intervals of a source as its spans
abbrev pub spans_as : ℕ → List Interval → List Span
spans_as id is = map (span_of id) is

-- spans of a source that is there come after all others
pub record IsRun (p : PoolValue) (sources : List SourceList) (order : List ℕ) (id : ℕ) (is : List Interval) (q : PoolValue) : Type 0 where
  pub kept : IsKeptIn q sources order
  pub parts : flat q sources order ≡ flat p sources order ++ spans_as id is

-- they are as they were
pub record Stays (p : PoolValue) (sources : List SourceList) (order : List ℕ) (q : PoolValue) (sources' : List SourceList) (order' : List ℕ) : Type 0 where
  pub kept : IsKeptIn q sources' order'
  pub same : flat q sources' order' ≡ flat p sources order

-- ---- a place among the spans

-- the spans of a source from a place on
abbrev pub spans_from : PoolValue → Place → List Span
spans_from p at = map (span_of at.source.id) (drop at.passed (spans p at.source.list))

abbrev pub cursor_view : PoolValue → List SourceList → List ℕ → Option Place → List Span
cursor_view p sources behind None = []
cursor_view p sources behind (Some at) = spans_from p at ++ spans_of p (sources_at sources behind)

-- an interval of a source's list, with how many come before it, and the cell after it
pub record IsPlaceIn (p : PoolValue) (s : SourceList) (n : ℕ) (at : Place) : Type 0 where
  pub source : at.source ≡ s
  pub passed : at.passed ≡ n
  pub numbers : drop n (spans p s.list) ≡ at.numbers ∷ drop (n + 1) (spans p s.list)
  pub next : at.next ≡ first_cell (drop (n + 1) (cells_of p s.list))
  pub len : at.len ≡ length (cells_of p s.list)

-- the spans after a place
abbrev pub spans_behind : PoolValue → List SourceList → List ℕ → Place → List Span
spans_behind p sources behind at = map (span_of at.source.id) (drop (at.passed + 1) (spans p at.source.list)) ++ spans_of p (sources_at sources behind)

-- a place of a list, and sources after it
pub record IsAt (p : PoolValue) (sources : List SourceList) (behind : List ℕ) (at : Place) : Type 0 where
  pub place : IsPlaceIn p at.source at.passed at
  pub passed : at.passed < at.len
  pub places : are_places sources behind ≡ true
  pub filled : list_all (is_filled p) (sources_at sources behind) ≡ true

abbrev pub IsCursor : PoolValue → List SourceList → List ℕ → Option Place → Type 0
IsCursor p sources behind None = Unit {0}
IsCursor p sources behind (Some at) = IsAt p sources behind at
