-- Spans of one source, put after the others at once.
use Rattle.std.proofs.Common.{◌≡◌, ◌≢◌, ◌<◌, ◌+◌, ℕ, suc, Bool, true, false, cond, ◌&&◌, ◌||◌, ◌==◌, nat_lt, List, [], ◌∷◌, ◌++◌, length, Some, refl, sym, ap, ◌∙◌, arith, length-append}
use Rattle.std.specs.FinSet as set
use Rattle.std.specs.List.{list_all, slice_get, AllByRecursion}
use Rattle.std.proofs.lemmas.Bool.{and_parts, and_from}
use Rattle.std.proofs.lemmas.Bool.Decides.{nat_tests}
use Rattle.std.proofs.lemmas.List.Folds.{list_any-append}
use Rattle.interval_pool.specs.declared.interval.Interval.{Interval}
use Rattle.interval_pool.specs.Intervals.{IsBefore, AreMerged, has as has_number, covers as covers_number}
use Rattle.interval_pool.specs.Values.{PoolValue, spans, is_list, Extended, IsFullWith}
use Rattle.interval_pool.proofs.Within.{stand_within}
use Rattle.gtid_text.specs.declared.Gtid.{Gtid}
use Rattle.gtid_text.specs.declared.Span.{Span}
use Rattle.gtid_set.specs.declared.sources.SourceList.{SourceList}
use Rattle.gtid_set.specs.Sets.{source_count}
use Rattle.gtid_set.specs.Spans.{set_of, is_before, is_merged, has}
use Rattle.gtid_set.specs.Sweep.{within, all_before, sources_in}
use Rattle.interval_pool.specs.declared.fault.PoolFault.{PoolFault}
use Rattle.interval_pool.specs.declared.fault.PoolFault.TheVariants as pools
use Rattle.gtid_set.specs.Full.{most_intervals, fault_of}
use Rattle.gtid_set.specs.BySource.{IsTooLong}
use Rattle.gtid_set.specs.Kept.{span_of, spans_of, are_ascending, have_own, lists_of, sources_at, is_filled, knows, flat, spans_as, IsRun, IsKeptIn, IsSourceOf}
use Rattle.std.specs.Ordering.{nat_cmp, eq_by_cmp}
use Rattle.std.specs.Cmp.{nat_cmp_total}
use Rattle.gtid_set.proofs.SourceLemmas.{same_numbers, contains-sources_in}
use Rattle.gtid_set.proofs.SetSources.{sources_of-set_of}
use Rattle.gtid_set.proofs.SpanLemmas.{any_none, merged_filled, all_weaker, merged_head, merged_back, front_before_back}
use Rattle.gtid_set.proofs.RunLemmas.{equal_lists}
use Rattle.gtid_set.proofs.SetLemmas.{same_members, contains-set_of}
use Rattle.gtid_set.proofs.KeptLemmas.{flat_length, has_span_of, has_spans_of, knows_at, merged_flat, all_of, same_at, knows_other}
use Rattle.gtid_set.proofs.KeptGrowth.{IsLawful, small_flat, behind_flat}

pub merged_numbers : (id : ℕ) (is : List Interval) → is_merged (spans_as id is) ≡ true → AreMerged is
merged_numbers id [] m = tt
merged_numbers id (i ∷ is) m =
    let h = merged_head (span_of id i) (spans_as id is) m in
    (h.filled, after is h.after, merged_numbers id is h.tail)
  where
    one : (j : Interval) → is_before (span_of id i) (span_of id j) ≡ true → i.hi + 1 < j.lo
    one j b = grind (arith, nat_tests)

    after : (js : List Interval) → list_all (is_before (span_of id i)) (spans_as id js) ≡ true → AllByRecursion (IsBefore i) js
    after [] all = tt
    after (j ∷ js) all = let w = and_parts (is_before (span_of id i) (span_of id j)) (list_all (is_before (span_of id i)) (spans_as id js)) all in (one j w.0, after js w.1)

joined : (is js : List Interval) → AreMerged is → AreMerged js → AllByRecursion (λ j. AllByRecursion (λ i. IsBefore i j) is) js → AreMerged (is ++ js)
joined [] js m n b = n
joined (i ∷ is) js m n b = (m.0, both is js m.1 (firsts js b), joined is js m.2 n (rests js b))
  where
    firsts : (js : List Interval) → AllByRecursion (λ j. AllByRecursion (λ i. IsBefore i j) (i ∷ is)) js → AllByRecursion (IsBefore i) js
    firsts [] b = tt
    firsts (j ∷ js) b = (b.0.0, firsts js b.1)

    rests : (js : List Interval) → AllByRecursion (λ j. AllByRecursion (λ i. IsBefore i j) (i ∷ is)) js → AllByRecursion (λ j. AllByRecursion (λ i. IsBefore i j) is) js
    rests [] b = tt
    rests (j ∷ js) b = (b.0.1, rests js b.1)

    both : (is js : List Interval) → AllByRecursion (IsBefore i) is → AllByRecursion (IsBefore i) js → AllByRecursion (IsBefore i) (is ++ js)
    both [] js a b = b
    both (k ∷ ks) js a b = (a.0, both ks js a.1 b)

-- what is asked of the pool for it
pub run_merged : (p : PoolValue) (sources : List SourceList) (order : List ℕ) (s : SourceList) (id : ℕ) (js : List Interval) → ((l : ℕ) → AreMerged (spans p l)) → IsSourceOf (sources_at sources order) s id
    → is_merged (flat p sources order ++ spans_as id js) ≡ true → AreMerged (spans p s.list ++ js)
run_merged p sources order s id js merged of m =
    joined (spans p s.list) js (merged s.list) (merged_numbers id js (merged_back (flat p sources order) (spans_as id js) m))
    (each js (turned (flat p sources order) (spans_as id js) (front_before_back (flat p sources order) (spans_as id js) m)))
  where
    turned : (xs ys : List Span) → list_all (λ x. list_all (is_before x) ys) xs ≡ true → list_all (λ y. all_before xs y) ys ≡ true
    turned xs [] h = refl
    turned xs (y ∷ ys) h = and_from (all_before xs y) (list_all (λ y. all_before xs y) ys)
        (all_weaker (λ x. list_all (is_before x) (y ∷ ys)) (λ x. is_before x y) xs (λ x a. (and_parts (is_before x y) (list_all (is_before x) ys) a).0) h)
        (turned xs ys (all_weaker (λ x. list_all (is_before x) (y ∷ ys)) (λ x. list_all (is_before x) ys) xs (λ x a. (and_parts (is_before x y) (list_all (is_before x) ys) a).1) h))

    each : (is : List Interval) → list_all (λ y. all_before (flat p sources order) y) (spans_as id is) ≡ true → AllByRecursion (λ j. AllByRecursion (λ i. IsBefore i j) (spans p s.list)) is
    each [] h = tt
    each (i ∷ is) h =
        let w = and_parts (all_before (flat p sources order) (span_of id i)) (list_all (λ y. all_before (flat p sources order) y) (spans_as id is)) h in
        (behind_flat p (sources_at sources order) of.at s (span_of id i) of.got of.same w.0, each is w.1)

-- ---- what it leaves

pub knows_extended : (p q : PoolValue) (ss : List SourceList) (at : ℕ) (s : SourceList) (id : ℕ) (js : List Interval) (g : Gtid) → are_ascending ss ≡ true → have_own ss ≡ true → slice_get ss at ≡ Some s → s.id ≡ id
    → Extended p s.list js q → knows q ss g ≡ (knows p ss g || has (spans_as id js) g)
knows_extended p q ss at s id js g r own e same more = split (g.source == s.id) refl
  where
    or_none : (b : Bool) → (b || false) ≡ b
    or_none true = refl
    or_none false = refl

    split : (b : Bool) → (g.source == s.id) ≡ b → knows q ss g ≡ (knows p ss g || has (spans_as id js) g)
    split true b =
        let here : g.source ≡ s.id = grind (arith, nat_tests) in
        let hit : (g.source == id) ≡ true = grind (arith, nat_tests) in
        knows_at q ss at s g r e here ∙ ap (λ is. has_number is g.number) more.spans ∙ list_any-append (λ i. covers_number i g.number) (spans p s.list) js
        ∙ (λ i. sym (knows_at p ss at s g r e here) i || sym (has_span_of id js g ∙ ap (λ b. b && has_number js g.number) hit) i)
    split false b =
        let there : g.source ≢ s.id = (λ k. absurd (let m = k in grind (arith, nat_tests))) in
        let miss : (g.source == id) ≡ false = grind (arith, nat_tests) in
        knows_other p q ss at s g own e (λ m ne. more.others m ne) there ∙ sym (or_none (knows p ss g)) ∙ ap (λ b. knows p ss g || b) (sym (has_span_of id js g ∙ ap (λ b. b && has_number js g.number) miss))

still_filled : (p q : PoolValue) (l : ℕ) (js : List Interval) → Extended p l js q → (s : SourceList) → is_filled p s ≡ true → is_filled q s ≡ true
still_filled p q l js more s filled = split (s.list == l) refl
  where
    w : (is_list p s.list ≡ true) × (nat_lt 0 (length (spans p s.list)) ≡ true)
    w = and_parts (is_list p s.list) (nat_lt 0 (length (spans p s.list))) filled

    longer : (n m : ℕ) → nat_lt 0 n ≡ true → nat_lt 0 (n + m) ≡ true
    longer n m h = grind (arith, nat_tests)

    split : (b : Bool) → (s.list == l) ≡ b → is_filled q s ≡ true
    split true b =
        let same : s.list ≡ l = grind (arith, nat_tests) in
        and_from (is_list q s.list) (nat_lt 0 (length (spans q s.list))) (more.lists s.list ∙ w.0)
        (ap (λ m. nat_lt 0 (length (spans q m))) same ∙ ap (λ is. nat_lt 0 (length is)) more.spans ∙ ap (nat_lt 0) (length-append (spans p l) js) ∙ longer (length (spans p l)) (length js) (sym (ap (λ m. nat_lt 0 (length (spans p m))) same) ∙ w.1))
    split false b =
        let other : s.list ≢ l = (λ k. absurd (let m = k in grind (arith, nat_tests))) in
        and_from (is_list q s.list) (nat_lt 0 (length (spans q s.list))) (more.lists s.list ∙ w.0) (ap (λ is. nat_lt 0 (length is)) (same_at p q s.list (more.others s.list other)) ∙ w.1)

-- ---- how many sources spans have

same_source : (id : ℕ) (is : List Interval) (ys : List Span) → nat_lt 0 (length is) ≡ true → sources_in (spans_as id is ++ ys) ≡ set.insert (sources_in ys) id
same_source id [] ys some = absurd cc
same_source id (i ∷ []) ys some = refl
same_source id (i ∷ j ∷ is) ys some =
    ap (λ s. set.insert s id) (same_source id (j ∷ is) ys (positive (length is)))
    ∙ same_numbers _ _ (λ q. set.contains-insert nat_cmp_total (set.insert (sources_in ys) id) id q ∙ twice (eq_by_cmp nat_cmp q id) (set.contains (sources_in ys) q) (set.contains-insert nat_cmp_total (sources_in ys) id q) ∙ sym (set.contains-insert nat_cmp_total (sources_in ys) id q))
  where
    positive : (n : ℕ) → nat_lt 0 (suc n) ≡ true
    positive n = grind (arith, nat_tests)

    twice : (a b : Bool) {c : Bool} → c ≡ (a || b) → (a || c) ≡ (a || b)
    twice true b e = refl
    twice false b e = e

-- a source before others is none of theirs
no_source_of : (p : PoolValue) (ss : List SourceList) (id : ℕ) → list_all (λ t. nat_lt id t.id) ss ≡ true → set.contains (sources_in (spans_of p ss)) id ≡ false
no_source_of p ss id less = contains-sources_in (spans_of p ss) id ∙ any_none (λ s. id == s.source) (λ s. nat_lt id s.source) (spans_of p ss) (λ s lt. differs s lt) (all_of (λ n. nat_lt id n) p ss less)
  where
    differs : (s : Span) → nat_lt id s.source ≡ true → (id == s.source) ≡ false
    differs s lt = grind (arith, nat_tests)

sources_listed : (p : PoolValue) (ss : List SourceList) → are_ascending ss ≡ true → list_all (is_filled p) ss ≡ true → set.len (sources_in (spans_of p ss)) ≡ length ss
sources_listed p [] rising filled = set.len-empty nat_cmp
sources_listed p (s ∷ ss) rising filled =
    let r = and_parts (list_all (λ t. nat_lt s.id t.id) ss) (are_ascending ss) rising in
    let f = and_parts (is_filled p s) (list_all (is_filled p) ss) filled in
    let some = (and_parts (is_list p s.list) (nat_lt 0 (length (spans p s.list))) f.0).1 in
    let rest = sources_listed p ss r.1 f.1 in
    let one = ap set.len (same_source s.id (spans p s.list) (spans_of p ss) some) ∙ set.len-insert nat_cmp_total (sources_in (spans_of p ss)) s.id
    ∙ ap (λ b. cond b (set.len (sources_in (spans_of p ss))) (set.len (sources_in (spans_of p ss)) + 1)) (no_source_of p ss s.id r.0) in
    omega (arith, one, rest)

pub count_listed : (p : PoolValue) (ss : List SourceList) → are_ascending ss ≡ true → list_all (is_filled p) ss ≡ true → ((l : ℕ) → AreMerged (spans p l)) → source_count (set_of (spans_of p ss)) ≡ length ss
count_listed p ss rising filled merged = ap set.len (sources_of-set_of (spans_of p ss) (merged_filled (spans_of p ss) (merged_flat p ss rising merged))) ∙ sources_listed p ss rising filled

-- ---- a run is written

pub run_written : (p q : PoolValue) (sources : List SourceList) (order : List ℕ) (s : SourceList) (id : ℕ) (js : List Interval) → IsKeptIn p sources order → IsSourceOf (sources_at sources order) s id
    → is_merged (flat p sources order ++ spans_as id js) ≡ true → Extended p s.list js q → IsLawful q → IsRun p sources order id js q
run_written p q sources order s id js kept of m more law =
    let ss = sources_at sources order in
    let merged = merged_flat q ss kept.rising law.merged in
    let filled = all_weaker (is_filled p) (is_filled q) ss (λ u f. still_filled p q s.list js more u f) kept.filled in
    record {
      kept = record {
        places = kept.places;
        as_many = kept.as_many;
        few = kept.few;
        rising = kept.rising;
        filled = filled;
        own = kept.own;
        known = λ l is. kept.known l (sym (more.lists l) ∙ is);
        merged = merged;
        counted = as_listed order ∙ sym (count_listed q ss kept.rising filled law.merged);
        small = small_flat q ss law kept.own;
      };
      parts = equal_lists (flat q sources order) (flat p sources order ++ spans_as id js) merged m (same_members _ _ (λ g.
          contains-set_of (flat q sources order) g ∙ has_spans_of q ss g ∙ knows_extended p q ss of.at s id js g kept.rising kept.own of.got of.same more
          ∙ ap (λ b. b || has (spans_as id js) g) (sym (has_spans_of p ss g)) ∙ sym (list_any-append (λ x. within x g) (flat p sources order) (spans_as id js)) ∙ sym (contains-set_of (flat p sources order ++ spans_as id js) g)));
    }
  where
    as_listed : (is : List ℕ) → length is ≡ length (sources_at sources is)
    as_listed [] = refl
    as_listed (i ∷ is) = ap suc (as_listed is)

-- where there is no room for a run, all spans are too many
full_for : (p : PoolValue) (sources : List SourceList) (order : List ℕ) (n : ℕ) → IsKeptIn p sources order → IsFullWith p n → most_intervals < length (flat p sources order) + n
full_for p sources order n kept full =
    let l = flat_length p (sources_at sources order) in
    let w = stand_within p (lists_of (sources_at sources order)) kept.known in
    let f = full in
    omega (arith, l, w, f)

pub too_long : (p : PoolValue) (sources : List SourceList) (order : List ℕ) (id : ℕ) (js : List Interval) (f : PoolFault) → IsKeptIn p sources order → (f ≡ pools.Full → IsFullWith p (length js)) → IsTooLong (flat p sources order ++ spans_as id js) (fault_of f)
too_long p sources order id js pools.Memory kept full = tt
too_long p sources order id js pools.Full kept full =
    let more = full_for p sources order (length js) kept (full refl) in
    let long = length-append (flat p sources order) (spans_as id js) in
    let same = as_many js in
    omega (arith, more, long, same)
  where
    as_many : (is : List Interval) → length (spans_as id is) ≡ length is
    as_many [] = refl
    as_many (i ∷ is) = ap suc (as_many is)

-- a run after spans, for other names of the same
pub run_behind : (p : PoolValue) (sources sources' : List SourceList) (order order' : List ℕ) (id id' : ℕ) (js : List Interval) → sources' ≡ sources → order' ≡ order → id' ≡ id
    → flat p sources' order' ++ spans_as id' js ≡ flat p sources order ++ spans_as id js
run_behind p sources sources' order order' id id' js ss is same = λ i. flat p (ss i) (is i) ++ spans_as (same i) js
