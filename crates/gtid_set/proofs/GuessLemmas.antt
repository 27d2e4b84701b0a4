-- A source that is found at its place among the sources as they came.
use Rattle.std.proofs.Common.{◌≡◌, ◌<◌, ℕ, suc, Bool, true, false, ◌&&◌, ◌||◌, ◌==◌, nat_lt, List, [], ◌∷◌, length, Some, refl, ap, ◌∙◌, Option, Some, None, IfSome, IfNone, arith}
use Rattle.std.specs.List.{AllByRecursion, IsDistinct, list_all, list_any, slice_get}
use Rattle.std.proofs.lemmas.Bool.{and_parts}
use Rattle.std.proofs.lemmas.Bool.Decides.{nat_tests}
use Rattle.std.proofs.lemmas.Map.Steps.{length-le_from_distinct_below}
use Rattle.gtid_set.specs.declared.sources.SourceList.{SourceList}
use Rattle.gtid_set.specs.Kept.{source_at, sources_at, are_places, are_ascending, are_others, IsSourceOf, IsSourceAt, IsNoSourceAt, IsSourcePlace}
use Rattle.gtid_set.proofs.BlockLemmas.{listed_got}
use Rattle.gtid_set.proofs.KeptLemmas.{others_at}

-- ---- places of ascending sources, no two of them equal

apart : (sources : List SourceList) (i : ℕ) (is : List ℕ) → list_all (λ u. nat_lt (source_at sources i).id u.id) (sources_at sources is) ≡ true → AllByRecursion (λ j. (i == j) ≡ false) is
apart sources i [] all = tt
apart sources i (j ∷ is) all =
    let w = and_parts (nat_lt (source_at sources i).id (source_at sources j).id) (list_all (λ u. nat_lt (source_at sources i).id u.id) (sources_at sources is)) all in
    (other (i == j) refl w.0, apart sources i is w.1)
  where
    same : (i == j) ≡ true → i ≡ j
    same e = grind (arith, nat_tests)

    below_itself : (n : ℕ) → nat_lt n n ≡ true → ⊥
    below_itself n lt = grind (arith, nat_tests)

    other : (b : Bool) → (i == j) ≡ b → nat_lt (source_at sources i).id (source_at sources j).id ≡ true → (i == j) ≡ false
    other true e lt = absurd (below_itself (source_at sources i).id (ap (λ k. nat_lt (source_at sources i).id (source_at sources k).id) (same e) ∙ lt))
    other false e lt = e

distinct : (sources : List SourceList) (is : List ℕ) → are_ascending (sources_at sources is) ≡ true → IsDistinct (λ a b. a == b) is
unfolding IsDistinct
distinct sources [] rising = tt
distinct sources (i ∷ is) rising =
    let w = and_parts (list_all (λ u. nat_lt (source_at sources i).id u.id) (sources_at sources is)) (are_ascending (sources_at sources is)) rising in
    (apart sources i is w.0, distinct sources is w.1)

-- ---- so many places below as many are all of them

none_equal : (i : ℕ) (is : List ℕ) → list_any (λ j. i == j) is ≡ false → AllByRecursion (λ j. (i == j) ≡ false) is
none_equal i [] none = tt
none_equal i (j ∷ is) none = (first (i == j) (list_any (λ k. i == k) is) none, none_equal i is (others (i == j) (list_any (λ k. i == k) is) none))
  where
    first : (a b : Bool) → (a || b) ≡ false → a ≡ false
    first true b e = absurd cc
    first false b e = refl

    others : (a b : Bool) → (a || b) ≡ false → b ≡ false
    others true b e = absurd cc
    others false b e = e

below : (n : ℕ) (is : List ℕ) → list_all (λ j. nat_lt j n) is ≡ true → (q : ℕ) → list_any (λ j. q == j) is ≡ true → q < n
below n [] all q any = absurd cc
below n (j ∷ is) all q any =
    let w = and_parts (nat_lt j n) (list_all (λ k. nat_lt k n) is) all in
    cases (q == j) refl any w.0 (below n is w.1 q)
  where
    cases : (b : Bool) → (q == j) ≡ b → (b || list_any (λ k. q == k) is) ≡ true → nat_lt j n ≡ true → (list_any (λ k. q == k) is ≡ true → q < n) → q < n
    cases true e any lt rest = grind (arith, nat_tests)
    cases false e any lt rest = rest any

longer : (i n : ℕ) (is : List ℕ) → list_all (λ j. nat_lt j n) is ≡ true → i < n → (q : ℕ) → list_any (λ j. q == j) (i ∷ is) ≡ true → q < n
longer i n is all lt q any = below n (i ∷ is) (first (nat_lt i n) less) q any
  where
    less : nat_lt i n ≡ true
    less = grind (arith, nat_tests)

    first : (b : Bool) → b ≡ true → (b && list_all (λ j. nat_lt j n) is) ≡ true
    first true e = all
    first false e = absurd cc

all_there : (i n : ℕ) (is : List ℕ) → list_all (λ j. nat_lt j n) is ≡ true → length is ≡ n → IsDistinct (λ a b. a == b) is → i < n → list_any (λ j. i == j) is ≡ true
unfolding IsDistinct
all_there i n is all many d lt = cases (list_any (λ j. i == j) is) refl
  where
    cases : (b : Bool) → list_any (λ j. i == j) is ≡ b → b ≡ true
    cases true e = refl
    cases false e =
        let more = length-le_from_distinct_below (i ∷ is) n (none_equal i is e, d) (longer i n is all lt) in
        absurd (omega (arith, more, many))

-- the index of one that is there
at_index : (i : ℕ) (is : List ℕ) → list_any (λ j. i == j) is ≡ true → (n : ℕ) × (slice_get is n ≡ Some i)
at_index i [] any = absurd cc
at_index i (j ∷ is) any = cases (i == j) refl any (at_index i is)
  where
    same : (i == j) ≡ true → j ≡ i
    same e = grind (arith, nat_tests)

    cases : (b : Bool) → (i == j) ≡ b → (b || list_any (λ k. i == k) is) ≡ true → (list_any (λ k. i == k) is ≡ true → (n : ℕ) × (slice_get is n ≡ Some i)) → (n : ℕ) × (slice_get (j ∷ is) n ≡ Some i)
    cases true e any rest = (0, ap (λ k. Some k) (same e))
    cases false e any rest = let found = rest any in (suc found.0, found.1)

-- the source at a place is one of those in order
pub source_there : (sources : List SourceList) (order : List ℕ) (i id : ℕ) → are_places sources order ≡ true → length order ≡ length sources → are_ascending (sources_at sources order) ≡ true → i < length sources → (source_at sources i).id ≡ id
    → IsSourceOf (sources_at sources order) (source_at sources i) id
source_there sources order i id places many rising lt same =
    let at = at_index i order (all_there i (length sources) order places many (distinct sources order rising) lt) in
    record { at = at.0; got = listed_got sources order at.0 i at.1; same = same }

-- ---- what is at a source's place, for all of them

pub searched_some : (ss : List SourceList) (id at : ℕ) (r : Option SourceList) → IfSome r (IsSourceAt ss at id) → IfSome r (λ s. IsSourceOf ss s id)
searched_some ss id at None some = some
searched_some ss id at (Some s) some = record { at = at; got = some.got; same = some.same }

pub searched_none : {HasSeat : Type 0} (ss : List SourceList) (id at : ℕ) (r : Option SourceList) → are_ascending ss ≡ true → IsSourcePlace ss id at → HasSeat → IfNone r (HasSeat → IsNoSourceAt ss at id) → IfNone r (are_others id ss ≡ true)
searched_none ss id at None rising place seat none = others_at ss id at rising place (none seat)
searched_none ss id at (Some s) rising place seat none = none

-- one of the sources is at its place
pub placed : {ss : List SourceList} {s : SourceList} {id : ℕ} (is : IsSourceOf ss s id) → IsSourceAt ss is.at id s
placed is = record { got = is.got; same = is.same }
