-- What one pass over lists of spans keeps.
use Rattle.std.specs.Prelude.{◌≡◌, ℕ, Bool, true, false, not, ◌&&◌, ◌||◌, ◌==◌, ◌≤◌, ◌+◌, ◌-◌, ◌<◌, max, min, length, map, nat_le, nat_lt, List, [], ◌∷◌, Option, Some, None, MatchBool, if◌then◌else◌}
use Rattle.std.specs.List.{list_all, list_any}
use Rattle.std.specs.FinSet as set
use Rattle.std.specs.Ordering.{nat_cmp}
use Rattle.gtid_text.specs.declared.Gtid.{Gtid}
use Rattle.gtid_text.specs.declared.Span.{Span}
use Rattle.gtid_text.specs.Written.{IsSource}
use Rattle.gtid_set.specs.Sets.{gtid, covers}
use Rattle.gtid_set.specs.Spans.{ends_before, is_before, is_merged, has}

-- the order of GTIDs
abbrev pub is_from : Gtid → Gtid → Bool
is_from g q = nat_lt g.source q.source || ((g.source == q.source) && nat_le g.number q.number)

-- the first GTID of a span
abbrev pub start_of : Span → Gtid
start_of s = gtid s.source s.lo

-- whether a GTID is in a span
abbrev pub within : Span → Gtid → Bool
within s = covers s.source s.lo s.hi

-- each starts by the start of the span
abbrev pub all_start_by : List Span → Span → Bool
all_start_by ss t = list_all (λ s. is_from (start_of s) (start_of t)) ss

-- each ends with a number missing before the span
abbrev pub all_before : List Span → Span → Bool
all_before ss t = list_all (λ s. is_before s t) ss

-- none ends before the span
abbrev pub all_reach : Span → List Span → Bool
all_reach t ss = list_all (λ s. not (ends_before (start_of t) s)) ss

-- each starts by the later ones
abbrev pub is_sorted : List Span → Bool
is_sorted [] = true
is_sorted (s ∷ ss) = list_all (λ t. is_from (start_of s) (start_of t)) ss && is_sorted ss

-- the spans that don't end before the span
pub record IsRest (t : Span) (spans rest : List Span) : Type 0 where
  pub merged : is_merged rest ≡ true
  pub reach : all_reach t rest ≡ true
  pub same : (q : Gtid) → is_from (start_of t) q ≡ true → has rest q ≡ has spans q

-- one span more, that starts by no other's start
pub record Joins (old : List Span) (t : Span) (new : List Span) : Type 0 where
  pub merged : is_merged new ≡ true
  pub order : all_start_by new t ≡ true
  pub has : (q : Gtid) → has new q ≡ (has old q || within t q)

-- the part of a span before a hole
abbrev pub front_of : Span → Span → Span
front_of t hole = record { source = t.source; lo = t.lo; hi = hole.lo - 1 }

pub record AddsFront (old : List Span) (t hole : Span) (new : List Span) : Type 0 where
  pub merged : is_merged new ≡ true
  pub later : (u : Span) → (t.lo < hole.lo → is_before (front_of t hole) u ≡ true) → all_before old u ≡ true → all_before new u ≡ true
  pub has : (q : Gtid) → has new q ≡ (has old q || (within t q && nat_lt q.number hole.lo))

-- the parts of a span outside others
pub record Cuts (old : List Span) (t : Span) (holes new : List Span) : Type 0 where
  pub merged : is_merged new ≡ true
  pub later : (u : Span) → is_before t u ≡ true → all_before old u ≡ true → all_before new u ≡ true
  pub has : (q : Gtid) → has new q ≡ (has old q || (within t q && not (has holes q)))

-- what two spans of one source have in common
abbrev pub common_of : Span → Span → Span
common_of t s = record { source = s.source; lo = max t.lo s.lo; hi = min t.hi s.hi }

-- what was before a span's common parts with others
abbrev pub all_before_common : List Span → Span → List Span → Bool
all_before_common out t ss = list_all (λ s. all_before out (common_of t s)) ss

-- one span has all of another
abbrev pub is_inside : Span → Span → Bool
is_inside t s = (s.source == t.source) && (nat_le s.lo t.lo && nat_le t.hi s.hi)

-- the parts of a span inside others
pub record Overlaps (old : List Span) (t : Span) (others new : List Span) : Type 0 where
  pub merged : is_merged new ≡ true
  pub later : (u : Span) → is_before t u ≡ true → all_before old u ≡ true → all_before new u ≡ true
  pub has : (q : Gtid) → has new q ≡ (has old q || (within t q && has others q))

-- a span that does not end before another has a number of it
abbrev pub is_met : Span → Span → Bool
is_met first t = (first.source == t.source) && nat_le first.lo t.hi

-- the first of the spans, which meets the span
pub record Meets (spans : List Span) (t first : Span) (more : List Span) : Type 0 where
  pub parts : spans ≡ first ∷ more
  pub met : is_met first t ≡ true

-- the span of two lists that starts first, and what is left of both
pub record TakesFirst (left right : List Span) (first : Span) (left' right' : List Span) : Type 0 where
  pub any : (p : Span → Bool) → (list_any p left || list_any p right) ≡ (p first || (list_any p left' || list_any p right'))
  pub left_rises : is_sorted left' ≡ true
  pub right_rises : is_sorted right' ≡ true
  pub left_later : list_all (λ t. is_from (start_of first) (start_of t)) left' ≡ true
  pub right_later : list_all (λ t. is_from (start_of first) (start_of t)) right' ≡ true
  pub shorter : length left' + length right' + 1 ≡ length left + length right

-- the merged list of the GTIDs that pass a test
pub record IsListOf (test : Gtid → Bool) (ss : List Span) : Type 0 where
  pub merged : is_merged ss ≡ true
  pub has : (q : Gtid) → has ss q ≡ test q

-- every GTID that passes one test passes the other
abbrev pub IsWithin : (Gtid → Bool) → (Gtid → Bool) → Type 0
IsWithin p q = (g : Gtid) → p g ≡ true → q g ≡ true

-- a GTID passes one test and fails the other
abbrev pub IsNotWithin : (Gtid → Bool) → (Gtid → Bool) → Type 0
IsNotWithin p q = (g : Gtid) × (p g ≡ true) × (q g ≡ false)

-- no GTID passes both tests
abbrev pub AreApart : (Gtid → Bool) → (Gtid → Bool) → Type 0
AreApart p q = (g : Gtid) → p g ≡ true → q g ≡ false

-- a GTID passes both tests
abbrev pub HaveCommon : (Gtid → Bool) → (Gtid → Bool) → Type 0
HaveCommon p q = (g : Gtid) × (p g ≡ true) × (q g ≡ true)

-- the different sources of spans
abbrev pub sources_in : List Span → set.FinSet nat_cmp
sources_in ss = set.from_list (map (λ s. s.source) ss)

-- whether a source is not the one before
abbrev pub is_new : Option ℕ → ℕ → Bool
is_new None source = true
is_new (Some last) source = not (last == source)

-- whether one of the spans has a number of the source
abbrev pub KnowsSource : Bool → List Span → ℕ → Type 0
KnowsSource known spans source = MatchBool known ((n : ℕ) × (has spans (gtid source n) ≡ true)) ((n : ℕ) → has spans (gtid source n) ≡ false)

-- the list has the numbers from a GTID on to the last of a span, and not the next
pub record HasSpan (spans : List Span) (q : Gtid) (s : Span) : Type 0 where
  pub reaches : q.number ≤ s.hi
  pub all : (n : ℕ) → q.number ≤ n → n ≤ s.hi → has spans (gtid q.source n) ≡ true
  pub ended : has spans (gtid q.source (s.hi + 1)) ≡ false

-- whether a source is the wanted one, or one of the others
abbrev pub is_kept : ℕ → Bool → ℕ → Bool
is_kept source wanted other = if other == source then wanted else not wanted

-- how many numbers a span has
abbrev pub size_of : Span → ℕ
size_of s = s.hi + 1 - s.lo

-- the numbers of a span are in range, if it has one
abbrev pub is_in_range : Span → Bool
is_in_range s = nat_le 1 s.lo && nat_le s.hi 9223372036854775807

-- the source of a span has 128 bits
abbrev pub HasSource : Span → Type 0
HasSource s = IsSource s.source
