-- What is read of spans that are kept in a pool.
use Rattle.std.proofs.Common.{◌≡◌, ◌≤◌, ◌<◌, ◌+◌, ℕ, zero, suc, Bool, true, false, not, ◌&&◌, ◌||◌, nat_lt, List, [], ◌∷◌, length, take, drop, get_or, refl, sym, ap, subst, ◌∙◌, arith}
use Rattle.std.specs.List.{list_all, AllByRecursion, Contains}
use Rattle.std.proofs.lemmas.Bool.{and_parts, and_from}
use Rattle.std.proofs.lemmas.Bool.Decides.{nat_tests}
use Rattle.std.specs.List.Sorted.{IsPartitionedBy, IsPartitionPoint}
use Rattle.interval_pool.specs.declared.interval.Interval.{Interval}
use Rattle.interval_pool.specs.Intervals.{IsBefore, AreMerged, covers, has as has_number}
use Rattle.interval_pool.specs.Values.{PoolValue, spans}
use Rattle.interval_pool.proofs.Standing.{has_one}
use Rattle.gtid_text.specs.declared.Gtid.{Gtid}
use Rattle.gtid_set.specs.declared.sources.SourceList.{SourceList}
use Rattle.gtid_set.specs.Sets.{gtid}
use Rattle.gtid_set.specs.Spans.{has}
use Rattle.gtid_set.specs.Sweep.{HasSpan}
use Rattle.gtid_set.specs.Kept.{span_of, spans_of, source_at, sources_at, are_places, are_ascending, comes_before, IsSourcePlace, IsSourceAt}
use Rattle.gtid_set.proofs.PlaceLemmas.{all_take, all_drop}
use Rattle.gtid_set.proofs.SpanLemmas.{all_weaker}
use Rattle.gtid_set.proofs.KeptLemmas.{has_spans_of, knows_at}

-- ---- the span that has a number

missed : (i : Interval) (n : ℕ) (is : List Interval) → n < i.lo → AllByRecursion (IsBefore i) is → i.lo ≤ i.hi → has_number is n ≡ false
missed i n [] lt after le = refl
missed i n (j ∷ is) lt after le = (λ k. one k || missed i n is lt after.1 le k)
  where
    one : covers j n ≡ false
    one = let b : i.hi + 1 < j.lo = after.0 in grind (arith, nat_tests)

-- the number after an interval is missing
pub ended_at : (is : List Interval) (k : ℕ) (s : Interval) → AreMerged is → k < length is → get_or is k s ≡ s → has_number is (s.hi + 1) ≡ false
ended_at [] k s m lt e = absurd (omega (arith, lt))
ended_at (i ∷ is) zero s m lt e =
    ap (λ (j : Interval). has_number (i ∷ is) (j.hi + 1)) (sym e) ∙ (λ k. here k || behind is m.1 k)
  where
    here : covers i (i.hi + 1) ≡ false
    here = grind (arith, nat_tests)

    beyond : (j : Interval) → IsBefore i j → covers j (i.hi + 1) ≡ false
    beyond j b = let lt : i.hi + 1 < j.lo = b in grind (arith, nat_tests)

    behind : (js : List Interval) → AllByRecursion (IsBefore i) js → has_number js (i.hi + 1) ≡ false
    behind [] all = refl
    behind (j ∷ js) all = (λ k. beyond j all.0 k || behind js all.1 k)
ended_at (i ∷ is) (suc k) s m lt e =
    let b = before is k m.1 (omega (arith, lt)) e in
    let f = filled is k m.2 (omega (arith, lt)) e in
    (λ j. passed b f j || ended_at is k s m.2 (omega (arith, lt)) e j)
  where
    before : (js : List Interval) (n : ℕ) → AllByRecursion (IsBefore i) js → n < length js → get_or js n s ≡ s → i.hi + 1 < s.lo
    before [] n all lt e = absurd (omega (arith, lt))
    before (j ∷ js) zero all lt e = subst (IsBefore i) e all.0
    before (j ∷ js) (suc n) all lt e = before js n all.1 (omega (arith, lt)) e

    filled : (js : List Interval) (n : ℕ) → AreMerged js → n < length js → get_or js n s ≡ s → s.lo ≤ s.hi
    filled [] n all lt e = absurd (omega (arith, lt))
    filled (j ∷ js) zero all lt e = subst (λ (x : Interval). x.lo ≤ x.hi) e all.0
    filled (j ∷ js) (suc n) all lt e = filled js n all.2 (omega (arith, lt)) e

    passed : i.hi + 1 < s.lo → s.lo ≤ s.hi → covers i (s.hi + 1) ≡ false
    passed b f = grind (arith, nat_tests)

pub span_here : (p : PoolValue) (ss : List SourceList) (at : ℕ) (s : SourceList) (i : Interval) (q : Gtid) → are_ascending ss ≡ true → ((l : ℕ) → AreMerged (spans p l)) → IsSourceAt ss at q.source s → Contains (spans p s.list) i → covers i q.number ≡ true
    → HasSpan (spans_of p ss) q (span_of q.source i)
span_here p ss at s i q rising merged is one here = record {
  reaches = (let h = here in grind (arith, nat_tests));
  all = λ n lo hi. number n ∙ has_one (spans p s.list) i n one (inside n lo hi);
  ended = number (i.hi + 1) ∙ ended_at (spans p s.list) one.0 i (merged s.list) one.1 one.2;
}
  where
    number : (n : ℕ) → has (spans_of p ss) (gtid q.source n) ≡ has_number (spans p s.list) n
    number n = has_spans_of p ss (gtid q.source n) ∙ knows_at p ss at s (gtid q.source n) rising is.got (sym is.same)

    inside : (n : ℕ) → q.number ≤ n → n ≤ i.hi → covers i n ≡ true
    inside n lo hi = let h = here in grind (arith, nat_tests)

pub missing_here : (p : PoolValue) (ss : List SourceList) (at : ℕ) (s : SourceList) (q : Gtid) → are_ascending ss ≡ true → IsSourceAt ss at q.source s → has_number (spans p s.list) q.number ≡ false → has (spans_of p ss) q ≡ false
missing_here p ss at s q rising is none = has_spans_of p ss q ∙ knows_at p ss at s q rising is.got (sym is.same) ∙ none

-- ---- the place of a source

-- what a test shows of places, for the sources there
all_listed : (test : SourceList → Bool) (sources : List SourceList) (is : List ℕ) → list_all test (sources_at sources is) ≡ list_all (λ i. test (source_at sources i)) is
all_listed test sources [] = refl
all_listed test sources (i ∷ is) = ap (λ b. test (source_at sources i) && b) (all_listed test sources is)

take_listed : (sources : List SourceList) (is : List ℕ) (n : ℕ) → take n (sources_at sources is) ≡ sources_at sources (take n is)
take_listed sources [] zero = refl
take_listed sources [] (suc n) = refl
take_listed sources (i ∷ is) zero = refl
take_listed sources (i ∷ is) (suc n) = ap (λ ss. source_at sources i ∷ ss) (take_listed sources is n)

drop_listed : (sources : List SourceList) (is : List ℕ) (n : ℕ) → drop n (sources_at sources is) ≡ sources_at sources (drop n is)
drop_listed sources [] zero = refl
drop_listed sources [] (suc n) = refl
drop_listed sources (i ∷ is) zero = refl
drop_listed sources (i ∷ is) (suc n) = drop_listed sources is n

length_listed : (sources : List SourceList) (is : List ℕ) → length is ≡ length (sources_at sources is)
length_listed sources [] = refl
length_listed sources (i ∷ is) = ap suc (length_listed sources is)

inside_all : (sources : List SourceList) (is : List ℕ) (i : ℕ) → are_places sources is ≡ true → i < length is → (d : ℕ) → nat_lt (get_or is i d) (length sources) ≡ true
inside_all sources [] i all lt d = absurd (omega (arith, lt))
inside_all sources (j ∷ is) zero all lt d = (and_parts (nat_lt j (length sources)) (are_places sources is) all).0
inside_all sources (j ∷ is) (suc i) all lt d = inside_all sources is i (and_parts (nat_lt j (length sources)) (are_places sources is) all).1 (omega (arith, lt)) d

-- the test of a search fails from some place on
pub parted_places : (sources : List SourceList) (is : List ℕ) (id : ℕ) → are_places sources is ≡ true → are_ascending (sources_at sources is) ≡ true → IsPartitionedBy (comes_before sources id) is
parted_places sources [] id places rising i j d le lt e = absurd (omega (arith, lt))
parted_places sources (k ∷ is) id places rising zero zero d le lt e = e
parted_places sources (k ∷ is) id places rising zero (suc j) d le lt e =
    let w = and_parts (list_all (λ u. nat_lt (source_at sources k).id u.id) (sources_at sources is)) (are_ascending (sources_at sources is)) rising in
    let p = and_parts (nat_lt k (length sources)) (are_places sources is) places in
    falls (get_or is j d) p.0 (less is j w.0 (omega (arith, lt))) e
  where
    less : (js : List ℕ) (n : ℕ) → list_all (λ u. nat_lt (source_at sources k).id u.id) (sources_at sources js) ≡ true → n < length js → nat_lt (source_at sources k).id (source_at sources (get_or js n d)).id ≡ true
    less [] n all lt = absurd (omega (arith, lt))
    less (j ∷ js) zero all lt = (and_parts (nat_lt (source_at sources k).id (source_at sources j).id) (list_all (λ u. nat_lt (source_at sources k).id u.id) (sources_at sources js)) all).0
    less (j ∷ js) (suc n) all lt = less js n (and_parts (nat_lt (source_at sources k).id (source_at sources j).id) (list_all (λ u. nat_lt (source_at sources k).id u.id) (sources_at sources js)) all).1 (omega (arith, lt))

    through : (x y : ℕ) → nat_lt x y ≡ true → nat_lt y id ≡ true → nat_lt x id ≡ true
    through x y a b = grind (arith, nat_tests)

    falls : (m : ℕ) → nat_lt k (length sources) ≡ true → nat_lt (source_at sources k).id (source_at sources m).id ≡ true → comes_before sources id m ≡ true → comes_before sources id k ≡ true
    falls m inside lt before =
        let b = (and_parts (nat_lt m (length sources)) (nat_lt (source_at sources m).id id) before).1 in
        and_from (nat_lt k (length sources)) (nat_lt (source_at sources k).id id) inside (through (source_at sources k).id (source_at sources m).id lt b)
parted_places sources (k ∷ is) id places rising (suc i) zero d le lt e = absurd (omega (arith, le))
parted_places sources (k ∷ is) id places rising (suc i) (suc j) d le lt e =
    parted_places sources is id (and_parts (nat_lt k (length sources)) (are_places sources is) places).1 (and_parts (list_all (λ u. nat_lt (source_at sources k).id u.id) (sources_at sources is)) (are_ascending (sources_at sources is)) rising).1 i j d (omega (arith, le)) (omega (arith, lt)) e

pub placed_source : (sources : List SourceList) (is : List ℕ) (id at : ℕ) → are_places sources is ≡ true → at ≤ length is → IsPartitionPoint (λ i. comes_before sources id i ≡ true) (λ i. comes_before sources id i ≡ false) is at → IsSourcePlace (sources_at sources is) id at
placed_source sources is id at places le part =
    let long = length_listed sources is in
    record {
      bound = omega (arith, long, le);
      before = ap (list_all (λ s. nat_lt s.id id)) (take_listed sources is at) ∙ all_listed (λ s. nat_lt s.id id) sources (take at is)
          ∙ all_weaker (comes_before sources id) (λ i. nat_lt (source_at sources i).id id) (take at is) (λ i b. (and_parts (nat_lt i (length sources)) (nat_lt (source_at sources i).id id) b).1) (all_take (comes_before sources id) is at le part.0);
      behind = ap (list_all (λ s. not (nat_lt s.id id))) (drop_listed sources is at) ∙ all_listed (λ s. not (nat_lt s.id id)) sources (drop at is)
          ∙ missed_all (drop at is) (places_behind is at places) (all_drop (comes_before sources id) is at part.1);
    }
  where
    places_behind : (js : List ℕ) (n : ℕ) → are_places sources js ≡ true → are_places sources (drop n js) ≡ true
    places_behind js zero all = all
    places_behind [] (suc n) all = refl
    places_behind (j ∷ js) (suc n) all = places_behind js n (and_parts (nat_lt j (length sources)) (are_places sources js) all).1

    not_less : (a b : Bool) → a ≡ true → not (a && b) ≡ true → not b ≡ true
    not_less true b e h = h
    not_less false b e h = absurd cc

    missed_all : (js : List ℕ) → are_places sources js ≡ true → list_all (λ i. not (comes_before sources id i)) js ≡ true → list_all (λ i. not (nat_lt (source_at sources i).id id)) js ≡ true
    missed_all [] a b = refl
    missed_all (j ∷ js) a b =
        let v = and_parts (nat_lt j (length sources)) (are_places sources js) a in
        let w = and_parts (not (comes_before sources id j)) (list_all (λ i. not (comes_before sources id i)) js) b in
        and_from (not (nat_lt (source_at sources j).id id)) (list_all (λ i. not (nat_lt (source_at sources i).id id)) js) (not_less (nat_lt j (length sources)) (nat_lt (source_at sources j).id id) v.0 w.0) (missed_all js v.1 w.1)
