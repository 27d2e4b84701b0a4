-- Walks over sets, source by source.
use Rattle.std.specs.Prelude.{◌≡◌, ◌⊎◌, ◌<◌, ℕ, Bool, true, not, ◌&&◌, ◌||◌, nat_le, nat_lt, List, ◌∷◌, ◌++◌, length}
use Rattle.std.specs.List.{list_all}
use Rattle.std.specs.FinSet as set
use Rattle.interval_pool.specs.declared.interval.Interval.{Interval}
use Rattle.interval_pool.specs.Values.{PoolValue}
use Rattle.gtid_text.specs.declared.Gtid.{Gtid}
use Rattle.gtid_text.specs.declared.Span.{Span}
use Rattle.gtid_set.specs.declared.sources.SourceList.{SourceList}
use Rattle.gtid_set.specs.declared.combine.Operation.{Operation}
use Rattle.gtid_set.specs.declared.combine.Operation.TheVariants.{Union, Difference, Intersection}
use Rattle.gtid_set.specs.declared.fault.SetFault.{SetFault}
use Rattle.gtid_set.specs.Sets.{Gtids}
use Rattle.gtid_set.specs.Full.{IsMemoryOr, most_intervals}
use Rattle.gtid_set.specs.Spans.{is_merged, has}
use Rattle.gtid_set.specs.Sweep.{is_sorted}
use Rattle.gtid_set.specs.Numbers.{all_numbered}
use Rattle.gtid_set.specs.Kept.{spans_as, are_places, are_ascending, is_filled, sources_at}

-- the sources of all spans are from this one on, or greater, or less
abbrev pub are_from : ℕ → List Span → Bool
are_from id ss = list_all (λ s. nat_le id s.source) ss

abbrev pub are_above : ℕ → List Span → Bool
are_above id ss = list_all (λ s. nat_lt id s.source) ss

abbrev pub are_below : ℕ → List Span → Bool
are_below id ss = list_all (λ s. nat_lt s.source id) ss

-- sources are ascending, and each has a list with intervals
pub record AreLists (p : PoolValue) (sources : List SourceList) (order : List ℕ) : Type 0 where
  pub places : are_places sources order ≡ true
  pub rising : are_ascending (sources_at sources order) ≡ true
  pub filled : list_all (is_filled p) (sources_at sources order) ≡ true

-- the first span is of this source
pub record BeginsWith (ss : List Span) (id : ℕ) : Type 0 where
  pub first : Span
  pub more : List Span
  pub parts : ss ≡ first ∷ more
  pub source : first.source ≡ id

-- it is the least source
pub record IsFirstSource (ss : List Span) (id : ℕ) : Type 0 where
  pub begins : BeginsWith ss id
  pub from : are_from id ss ≡ true

-- the same of two lists of spans
pub record IsNextSource (left right : List Span) (id : ℕ) : Type 0 where
  pub begins : BeginsWith left id ⊎ BeginsWith right id
  pub left_from : are_from id left ≡ true
  pub right_from : are_from id right ≡ true

-- the intervals of a source before the spans of greater ones
pub record TakesSource (old : List Span) (id : ℕ) (numbers : List Interval) (new : List Span) : Type 0 where
  pub parts : old ≡ spans_as id numbers ++ new
  pub above : are_above id new ≡ true

-- the merged intervals of the first spans, which are of a source, and the spans after them
pub record JoinsSource (old : List Span) (id : ℕ) (numbers : List Interval) (new : List Span) : Type 0 where
  pub merged : is_merged (all_numbered numbers) ≡ true
  pub has : (q : Gtid) → has old q ≡ (has (spans_as id numbers) q || has new q)
  pub above : are_above id new ≡ true
  pub rises : is_sorted new ≡ true
  pub begun : BeginsWith old id → length new < length old

-- what an operation keeps of what the first set has and the second
abbrev pub combines : Operation → Bool → Bool → Bool
combines Union a b = a || b
combines Difference a b = a && not b
combines Intersection a b = a && b

abbrev pub combination : Operation → Gtids → Gtids → Gtids
combination Union s t = set.union s t
combination Difference s t = set.difference s t
combination Intersection s t = set.intersection s t

-- out of memory, or the spans are too many
abbrev pub IsTooLong : List Span → SetFault → Type 0
IsTooLong ss f = IsMemoryOr ⊥ (most_intervals < length ss) f
