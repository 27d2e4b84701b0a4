-- Where membership in a set changes: at the first number of each run, and at the number after its last. Of a set that is made of
-- others by union, difference and intersection no edge is new, so the edges of the others bound its intervals.
use Rattle.std.specs.Prelude.{◌≡◌, ◌+◌, ◌-◌, ◌*◌, ◌<◌, ◌≤◌, ◌==◌, ◌&&◌, ◌||◌, Bool, true, not, List, [], ◌∷◌}
use Rattle.std.specs.FinSet as set
use Rattle.gtid_text.specs.declared.Gtid.{Gtid}
use Rattle.gtid_text.specs.declared.Span.{Span}
use Rattle.gtid_set.specs.Sets.{Gtids, gtid}
use Rattle.gtid_set.specs.Runs.{runs}
use Rattle.gtid_set.specs.Full.{interval_count, most_intervals}

-- the next number of the same source
abbrev pub next_to : Gtid → Gtid
next_to g = gtid g.source (g.number + 1)

-- the first GTID of each span, and the one after its last
abbrev pub ends_of : List Span → List Gtid
ends_of [] = []
ends_of (s ∷ ss) = gtid s.source s.lo ∷ gtid s.source (s.hi + 1) ∷ ends_of ss

unfoldable pub edges : Gtids → Gtids
edges s = set.from_list (ends_of (runs s))

-- whether the number before is a member
abbrev pub has_before : Gtids → Gtid → Bool
has_before s g = not (g.number == 0) && set.contains s (gtid g.source (g.number - 1))

-- whether a GTID is a member and the number before is not, or the other way round
abbrev pub changes_at : Gtids → Gtid → Bool
changes_at s g = (set.contains s g && not (has_before s g)) || (not (set.contains s g) && has_before s g)

-- all edges of a set are among these
abbrev pub HasEdges : Gtids → Gtids → Type 0
HasEdges places s = set.is_subset (edges s) places ≡ true

-- a GTID and the next are among these: the edges of the set of that GTID alone
abbrev pub HasEnds : Gtids → Gtid → Type 0
HasEnds places g = (set.contains places g ≡ true) × (set.contains places (next_to g) ≡ true)

-- more than the edges of any set that has not too many intervals
abbrev pub AreManyEdges : Gtids → Type 0
AreManyEdges places = 2 * most_intervals < set.len places

-- whatever has all of some places has many of them (`AreManyEdges`): a set with no edge elsewhere has too many intervals
abbrev pub IsCrowd : (Gtids → Type 0) → Type 0
IsCrowd Has = (places : Gtids) → Has places → AreManyEdges places

-- ---- laws

abbrev pub EdgesAreChanges : Type 0
EdgesAreChanges = (s : Gtids) (g : Gtid) → set.contains (edges s) g ≡ changes_at s g

abbrev pub EdgesAreTwice : Type 0
EdgesAreTwice = (s : Gtids) → set.len (edges s) ≡ 2 * interval_count s

abbrev pub EdgesOfUnion : Type 0
EdgesOfUnion = (a b : Gtids) → HasEdges (set.union (edges a) (edges b)) (set.union a b)

abbrev pub EdgesOfDifference : Type 0
EdgesOfDifference = (a b : Gtids) → HasEdges (set.union (edges a) (edges b)) (set.difference a b)

abbrev pub EdgesOfIntersection : Type 0
EdgesOfIntersection = (a b : Gtids) → HasEdges (set.union (edges a) (edges b)) (set.intersection a b)

-- the intervals of the operands together are no fewer

abbrev pub IntervalsOfUnion : Type 0
IntervalsOfUnion = (a b : Gtids) → interval_count (set.union a b) ≤ interval_count a + interval_count b

abbrev pub IntervalsOfDifference : Type 0
IntervalsOfDifference = (a b : Gtids) → interval_count (set.difference a b) ≤ interval_count a + interval_count b

abbrev pub IntervalsOfIntersection : Type 0
IntervalsOfIntersection = (a b : Gtids) → interval_count (set.intersection a b) ≤ interval_count a + interval_count b

abbrev pub IntervalsOfInsert : Type 0
IntervalsOfInsert = (s : Gtids) (g : Gtid) → interval_count (set.insert s g) ≤ interval_count s + 1
