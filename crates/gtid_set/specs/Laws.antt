-- Laws of sets of GTIDs and of their text, as they are stated by public functions.
use Rattle.std.specs.Prelude.{◌≡◌, ℕ, ◌≤◌, true, List, Ok, Err}
use Rattle.std.specs.FinSet as set
use Rattle.gtid_text.specs.declared.Gtid.{Gtid}
use Rattle.gtid_text.specs.Written.{IsSource, IsNumbered, IsUsable}
use Rattle.gtid_set.specs.declared.fault.SetFault.TheVariants.{PoolFull, SourcesFull}
use Rattle.gtid_set.specs.declared.fault.SetTextFault.TheVariants.{Set}
use Rattle.gtid_set.specs.Sets.{Gtids, source_count, most_sources}
use Rattle.gtid_set.specs.Runs.{canonical}
use Rattle.gtid_set.specs.Full.{interval_count, HasManySources, HasManyIntervals, most_intervals}
use Rattle.gtid_set.specs.Texts.{ParsesAsSet, set_in}

-- ---- union

abbrev pub UnionCommutes : Type 0
UnionCommutes = (a b : Gtids) → set.union a b ≡ set.union b a

abbrev pub UnionAssociates : Type 0
UnionAssociates = (a b c : Gtids) → set.union (set.union a b) c ≡ set.union a (set.union b c)

abbrev pub UnionRepeats : Type 0
UnionRepeats = (a : Gtids) → set.union a a ≡ a

-- both sets are parts of their union
abbrev pub UnionIsUpper : Type 0
UnionIsUpper = (a b : Gtids) → (set.is_subset a (set.union a b) ≡ true) × (set.is_subset b (set.union a b) ≡ true)

-- what has both sets as parts has their union
abbrev pub UnionIsLeast : Type 0
UnionIsLeast = (a b c : Gtids) → set.is_subset a c ≡ true → set.is_subset b c ≡ true → set.is_subset (set.union a b) c ≡ true

-- ---- difference

abbrev pub UnionLess : Type 0
UnionLess = (a b c : Gtids) → set.difference (set.union a b) c ≡ set.union (set.difference a c) (set.difference b c)

abbrev pub LessUnion : Type 0
LessUnion = (a b c : Gtids) → set.difference a (set.union b c) ≡ set.difference (set.difference a b) c

abbrev pub LessBoth : Type 0
LessBoth = (a b c : Gtids) → set.difference a (set.intersection b c) ≡ set.union (set.difference a b) (set.difference a c)

-- ---- intersection

abbrev pub BothOfUnion : Type 0
BothOfUnion = (a b c : Gtids) → set.intersection (set.union a b) c ≡ set.union (set.intersection a c) (set.intersection b c)

abbrev pub BothOfLess : Type 0
BothOfLess = (a b c : Gtids) → set.intersection (set.difference a b) c ≡ set.difference (set.intersection a c) b

-- ---- text

-- each member is a GTID that some transaction may have
abbrev pub AreUsable : Gtids → Type 0
AreUsable s = (g : Gtid) → set.contains s g ≡ true → IsUsable g

-- each member's source is one, whatever its number
abbrev pub HaveSources : Gtids → Type 0
HaveSources s = (g : Gtid) → set.contains s g ≡ true → IsSource g.source

-- each member's number is in range, 1 to 2^63 - 1, whatever its source
abbrev pub HaveNumbers : Gtids → Type 0
HaveNumbers s = (g : Gtid) → set.contains s g ≡ true → IsNumbered g.number

-- a text parses as one set at most
abbrev pub ParsesAsOneSet : Type 0
ParsesAsOneSet = (text : List ℕ) (s t : Gtids) → ParsesAsSet text s → ParsesAsSet text t → s ≡ t

-- the canonical text of a set parses as it
abbrev pub CanonicalParses : Type 0
CanonicalParses = (s : Gtids) → AreUsable s → ParsesAsSet (canonical s) s

-- a set that has a text has a canonical text
abbrev pub CanonicalParsesAgain : Type 0
CanonicalParsesAgain = (text : List ℕ) (s : Gtids) → HaveSources s → ParsesAsSet text s → ParsesAsSet (canonical s) s

-- a set that has a text has numbers in range
abbrev pub SpelledInRange : Type 0
SpelledInRange = (text : List ℕ) (s : Gtids) → ParsesAsSet text s → HaveNumbers s

-- sets with one canonical text are one
abbrev pub CanonicalIsInjective : Type 0
CanonicalIsInjective = (s t : Gtids) → AreUsable s → AreUsable t → canonical s ≡ canonical t → s ≡ t

-- the answer to a text is a set that it parses as
abbrev pub FoundIsSetText : Type 0
FoundIsSetText = (text : List ℕ) (s : Gtids) → set_in text ≡ Ok s → ParsesAsSet text s × ((source_count s ≤ most_sources) × (interval_count s ≤ most_intervals))

-- the answer to a text that parses as a set is that set, or that it has too many sources, or else too many intervals
abbrev pub SetTextIsFound : Type 0
SetTextIsFound = (text : List ℕ) (s : Gtids) → ParsesAsSet text s → source_count s ≤ most_sources → interval_count s ≤ most_intervals → set_in text ≡ Ok s

abbrev pub SetTextIsFull : Type 0
SetTextIsFull = (text : List ℕ) (s : Gtids) → ParsesAsSet text s → HasManySources s → set_in text ≡ Err (Set SourcesFull)

abbrev pub SetTextIsCrowded : Type 0
SetTextIsCrowded = (text : List ℕ) (s : Gtids) → ParsesAsSet text s → source_count s ≤ most_sources → HasManyIntervals s → set_in text ≡ Err (Set PoolFull)
