-- Spans kept in a pool stay so, and why there is no room for one more.
use Rattle.std.proofs.Common.{◌≡◌, ◌≢◌, ◌≤◌, ◌<◌, ◌+◌, ◌-◌, ◌⊎◌, ℕ, zero, suc, Bool, true, false, not, ◌&&◌, ◌||◌, ◌==◌, nat_le, nat_lt, List, [], ◌∷◌, ◌++◌, length, map, take, drop, Option, Some, None, refl, sym, ap, subst, ◌∙◌, arith, inl, inr}
use Rattle.std.specs.FinSet as set
use Rattle.std.specs.List.{list_all, slice_get, AllByRecursion}
use Rattle.std.specs.Prelude.{unwrap_or, Ok, Err, is_some, slice_index_or}
use Rattle.std.proofs.lemmas.Bool.{and_parts, and_from}
use Rattle.std.proofs.lemmas.Bool.Decides.{nat_tests}
use Rattle.std.proofs.lemmas.List.{length-append, append_assoc}
use Rattle.std.proofs.Math.Seq.{take-length, drop-length}
use Rattle.std.proofs.lemmas.List.Folds.{list_any-append}
use Rattle.interval_pool.specs.declared.interval.Interval.{Interval}
use Rattle.interval_pool.specs.declared.fault.PoolFault.{PoolFault}
use Rattle.interval_pool.specs.declared.fault.PoolFault.TheVariants as pools
use Rattle.interval_pool.specs.Chains.{IsAmong, AreOnce}
use Rattle.interval_pool.specs.Links.{most_cells}
use Rattle.interval_pool.specs.Intervals.{IsBefore, AreMerged, IsApart, covers as covers_number}
use Rattle.interval_pool.specs.Values.{Held, PoolValue, slot_at, spans, is_list, IsList, intervals_of, AreAmong, AreAllLists, AddedTo, Opened, IsPartition, IsFull}
use Rattle.interval_pool.proofs.Within.{stand_within, distinct_stand}
use Rattle.gtid_text.specs.declared.Gtid.{Gtid}
use Rattle.gtid_text.specs.declared.Span.{Span}
use Rattle.gtid_set.specs.declared.fault.SetFault.{SetFault}
use Rattle.gtid_set.specs.declared.fault.SetFault.TheVariants.{Memory, PoolFull, SourcesFull}
use Rattle.gtid_set.specs.declared.sources.SourceList.{SourceList}
use Rattle.gtid_set.specs.Sets.{Gtids, gtid, interval, source_count, most_sources}
use Rattle.gtid_set.specs.Spans.{set_of, is_before, is_merged, has}
use Rattle.gtid_set.specs.Sweep.{within, all_before, IsListOf, KnowsSource}
use Rattle.gtid_set.specs.Runs.{runs}
use Rattle.gtid_set.specs.Full.{fault_of, interval_count, most_intervals, IsFullExactly, HasManyIntervals}
use Rattle.gtid_set.specs.BySource.{IsTooLong}
use Rattle.gtid_set.specs.Kept.{span_of, interval_of, spans_in, spans_of, are_ascending, have_own, lists_of, sources_at, is_filled, knows, flat, are_others, HasSameLists, Lists, IsListFault, IsKeptIn, IsSourceOf, IsNoSourceAt, IsSourcePlace, Grown, Stays}
use Rattle.gtid_set.proofs.SpanLemmas.{all_weaker, all_parts, merged_front, merged_pushed}
use Rattle.gtid_set.proofs.SetSources.{added_set, count_with, len_known, len_unknown, no_sources, with_one, fewer_sources}
use Rattle.gtid_set.proofs.SetLemmas.{set_of-append, contains-set_of}
use Rattle.gtid_set.proofs.RunLemmas.{runs_merged, equal_lists}
use Rattle.gtid_set.proofs.KeptLemmas.{has_spans_of, knows_none, merged_flat, flat_length, same_at, knows_same}
use Rattle.gtid_set.proofs.KeptChanges.{knows_added, filled_added, first_number, one_more, apart_at, apart_others, with_source, all_with, rising_with, own_with, among_with, knows_with, listed_with, places_with, all_among, has_some}

-- what is known of a pool by its law
pub record IsLawful (p : PoolValue) : Type 0 where
  pub small : p.cells ≤ most_cells
  pub merged : (l : ℕ) → AreMerged (spans p l)
  pub parted : IsPartition p

once_of : (ss : List SourceList) → have_own ss ≡ true → AreOnce (lists_of ss)
once_of [] own = tt
once_of (s ∷ ss) own =
    let w = and_parts (list_all (λ t. not (t.list == s.list)) ss) (have_own ss) own in
    (others ss w.0, once_of ss w.1)
  where
    differs : (t : SourceList) → not (t.list == s.list) ≡ true → t.list ≢ s.list
    differs t o k = absurd (grind (arith, nat_tests))

    others : (ts : List SourceList) → list_all (λ t. not (t.list == s.list)) ts ≡ true → AllByRecursion (λ j. j ≢ s.list) (lists_of ts)
    others [] all = tt
    others (t ∷ ts) all = let w = and_parts (not (t.list == s.list)) (list_all (λ t. not (t.list == s.list)) ts) all in (differs t w.0, others ts w.1)

-- the spans are no more than the cells
pub small_flat : (p : PoolValue) (ss : List SourceList) → IsLawful p → have_own ss ≡ true → length (spans_of p ss) ≤ most_intervals
small_flat p ss law own =
    let l = flat_length p ss in
    let d = distinct_stand p (lists_of ss) (once_of ss own) in
    let c = law.parted.count in
    let s = law.small in
    omega (arith, l, d, c, s)

-- a full pool has as many intervals as there may be
pub full_flat : (p : PoolValue) (ss : List SourceList) → AreAmong p (lists_of ss) → IsFull p → most_intervals ≤ length (spans_of p ss)
full_flat p ss known full =
    let l = flat_length p ss in
    let w = stand_within p (lists_of ss) known in
    let f = full in
    omega (arith, l, w, f)

-- ---- a source that is there

abbrev pub with_span : Gtids → Span → Gtids
with_span s t = set.union s (interval t.source t.lo t.hi)

known_count : (p : PoolValue) (sources : List SourceList) (order : List ℕ) (s : SourceList) (t : Span) → IsKeptIn p sources order → ((l : ℕ) → AreMerged (spans p l)) → IsSourceOf (sources_at sources order) s t.source → t.lo ≤ t.hi
    → length order ≡ source_count (with_span (set_of (flat p sources order)) t)
known_count p sources order s t kept merged of le =
    len_known (flat p sources order) t.source (length order) kept.counted (subst (KnowsSource true (flat p sources order)) of.same (first_number p (sources_at sources order) of.at s kept.rising of.got kept.filled merged))
    ∙ count_with (flat p sources order) (flat p sources order) (set_of (flat p sources order)) t.source t.lo t.hi refl refl le

pub grown_at : (p q : PoolValue) (sources : List SourceList) (order : List ℕ) (s : SourceList) (t : Span) → IsKeptIn p sources order → ((l : ℕ) → AreMerged (spans p l)) → IsSourceOf (sources_at sources order) s t.source → t.lo ≤ t.hi
    → AddedTo p s.list (interval_of t) q → IsLawful q → Grown p sources order t q sources order
grown_at p q sources order s t kept merged of le added law =
    let ss = sources_at sources order in
    let list : IsListOf (λ g. within t g || has (flat p sources order) g) (flat q sources order) = record {
      merged = merged_flat q ss kept.rising law.merged;
      has = λ g. has_spans_of q ss g ∙ knows_added p q ss of.at s t g kept.rising kept.own of.got of.same added ∙ ap (λ b. within t g || b) (sym (has_spans_of p ss g));
    } in
    record {
      kept = record {
        places = kept.places;
        as_many = kept.as_many;
        few = kept.few;
        rising = kept.rising;
        filled = all_weaker (is_filled p) (is_filled q) ss (λ u f. filled_added p q s.list t le added u f) kept.filled;
        own = kept.own;
        known = λ l is. kept.known l (sym (added.lists l) ∙ is);
        merged = list.merged;
        counted = known_count p sources order s t kept merged of le ∙ sym (ap source_count (added_set (flat p sources order) (flat q sources order) (set_of (flat p sources order)) t refl list));
        small = small_flat q ss law kept.own;
      };
      list = list;
    }

-- ---- why there is no room

pub fault_at : (p : PoolValue) (sources : List SourceList) (order : List ℕ) (s : SourceList) (t : Span) (f : PoolFault) → IsKeptIn p sources order → ((l : ℕ) → AreMerged (spans p l)) → IsSourceOf (sources_at sources order) s t.source → t.lo ≤ t.hi
    → IsApart (spans p s.list) (interval_of t) → (f ≡ pools.Full → IsFull p) → IsFullExactly {T = Unit {0}} (Err (fault_of f)) (with_span (set_of (flat p sources order)) t)
fault_at p sources order s t pools.Memory kept merged of le apart full = let c = known_count p sources order s t kept merged of le in let few = kept.few in omega (arith, c, few)
fault_at p sources order s t pools.Full kept merged of le apart full =
    let c = known_count p sources order s t kept merged of le in
    let few = kept.few in
    let m = one_more (flat p sources order) t kept.merged le (apart_at p (sources_at sources order) of.at s t kept.rising of.got of.same apart) in
    let f = full_flat p (sources_at sources order) kept.known (full refl) in
    (omega (arith, c, few), omega (arith, m, f))

-- spans that have grown are of no set that is too large
pub fits_grown : (p q : PoolValue) (sources sources' : List SourceList) (order order' : List ℕ) (t : Span) → Grown p sources order t q sources' order' → IsFullExactly {T = Unit {0}} (Ok tt) (with_span (set_of (flat p sources order)) t)
fits_grown p q sources sources' order order' t grown =
    let same = added_set (flat p sources order) (flat q sources' order') (set_of (flat p sources order)) t refl grown.list in
    let c = grown.kept.counted ∙ ap source_count same in
    let few = grown.kept.few in
    let i = ap length (sym (runs_merged (flat q sources' order') grown.kept.merged) ∙ ap runs same) in
    let small = grown.kept.small in
    (omega (arith, c, few), omega (arith, i, small))

-- ---- a source more

unknown_count : (p : PoolValue) (sources : List SourceList) (order : List ℕ) (t : Span) → IsKeptIn p sources order → are_others t.source (sources_at sources order) ≡ true → t.lo ≤ t.hi
    → length order + 1 ≡ source_count (with_span (set_of (flat p sources order)) t)
unknown_count p sources order t kept others le =
    len_unknown (flat p sources order) t.source (length order) kept.counted (λ n. has_spans_of p (sources_at sources order) (gtid t.source n) ∙ knows_none p (sources_at sources order) (gtid t.source n) others)
    ∙ count_with (flat p sources order) (flat p sources order) (set_of (flat p sources order)) t.source t.lo t.hi refl refl le

not_there : (o : Option (List Held)) → o ≡ None → is_some o ≡ true → ⊥
not_there None e h = absurd cc
not_there (Some x) e h = absurd cc

-- its list is none of the others
apart_lists : (p : PoolValue) (ss : List SourceList) (l : ℕ) → slot_at p l ≡ None → list_all (is_filled p) ss ≡ true → list_all (λ t. not (t.list == l)) ss ≡ true
apart_lists p ss l none filled = all_weaker (is_filled p) (λ t. not (t.list == l)) ss (λ t f. other t f) filled
  where
    other : (t : SourceList) → is_filled p t ≡ true → not (t.list == l) ≡ true
    other t f = split (t.list == l) refl
      where
        split : (b : Bool) → (t.list == l) ≡ b → not b ≡ true
        split false e = refl
        split true e =
            let same : t.list ≡ l = grind (arith, nat_tests) in
            let is = (and_parts (is_list p t.list) (nat_lt 0 (length (spans p t.list))) f).0 in
            absurd (not_there (slot_at p l) none (sym (ap (is_list p) same) ∙ is))

pub grown_with : (p q : PoolValue) (sources : List SourceList) (order : List ℕ) (at l : ℕ) (t : Span) → IsKeptIn p sources order → IsSourcePlace (sources_at sources order) t.source at → are_others t.source (sources_at sources order) ≡ true
    → t.lo ≤ t.hi → length order < most_sources → Lists p l (interval_of t) q → IsLawful q
    → Grown p sources order t q (sources ++ record { id = t.source; list = l } ∷ []) (take at order ++ length sources ∷ drop at order)
grown_with p q sources order at l t kept place others le few lists law =
    let ss = sources_at sources order in
    let s : SourceList = record { id = t.source; list = l } in
    let order' = take at order ++ length sources ∷ drop at order in
    let sources' = sources ++ s ∷ [] in
    let same : sources_at sources' order' ≡ with_source ss at s = listed_with sources order s at kept.places in
    let apart = apart_lists p ss l lists.new kept.filled in
    let rising : are_ascending (sources_at sources' order') ≡ true = ap are_ascending same ∙ rising_with ss at s kept.rising place others in
    let own : have_own (sources_at sources' order') ≡ true = ap have_own same ∙ own_with ss at s kept.own apart in
    let here : (g : Gtid) → knows q (sources_at sources' order') g ≡ (within t g || knows p ss g) = λ g.
    ap (λ xs. knows q xs g) same ∙ knows_with q ss at s g
    ∙ (λ i. ((g.source == t.source) && lists.numbers g.number i) || knows_same p q l ss g lists.others apart i) in
    let list : IsListOf (λ g. within t g || has (flat p sources order) g) (flat q sources' order') = record {
      merged = merged_flat q (sources_at sources' order') rising law.merged;
      has = λ g. has_spans_of q (sources_at sources' order') g ∙ here g ∙ ap (λ b. within t g || b) (sym (has_spans_of p ss g));
    } in
    let long : length order' ≡ length order + 1 = length_with order (length sources) at in
    record {
      kept = record {
        places = places_with sources order s at kept.places;
        as_many = (let m = kept.as_many in let k = length-append sources (s ∷ []) in omega (arith, long, m, k));
        few = omega (arith, long, few);
        rising = rising;
        filled = ap (list_all (is_filled q)) same ∙ all_with (is_filled q) ss at s (all_still ss apart kept.filled) (now_filled law);
        own = own;
        known = λ m is. subst (λ xs. IsAmong m (lists_of xs)) (sym same) (among_with ss at s m (among m is));
        merged = list.merged;
        counted = long ∙ unknown_count p sources order t kept others le ∙ sym (ap source_count (added_set (flat p sources order) (flat q sources' order') (set_of (flat p sources order)) t refl list));
        small = small_flat q (sources_at sources' order') law own;
      };
      list = list;
    }
  where
    length_with : (xs : List ℕ) (x n : ℕ) → length (take n xs ++ x ∷ drop n xs) ≡ length xs + 1
    length_with xs x zero = omega arith
    length_with [] x (suc n) = omega arith
    length_with (y ∷ ys) x (suc n) = let r = length_with ys x n in omega (arith, r)

    covered : covers_number (interval_of t) t.lo ≡ true
    covered = grind (arith, nat_tests)

    now_filled : IsLawful q → is_filled q (record { id = t.source; list = l }) ≡ true
    now_filled law = and_from (is_list q l) (nat_lt 0 (length (spans q l))) lists.now (has_some (spans q l) t.lo (lists.numbers t.lo ∙ covered))

    still : (u : SourceList) → not (u.list == l) ≡ true → is_filled p u ≡ true → is_filled q u ≡ true
    still u o f =
        let other : u.list ≢ l = (λ k. absurd (let m = k in grind (arith, nat_tests))) in
        ap (λ slot. is_some slot && nat_lt 0 (length (map (λ (h : Held). h.numbers) (unwrap_or slot [])))) (lists.others u.list other) ∙ f

    all_still : (us : List SourceList) → list_all (λ u. not (u.list == l)) us ≡ true → list_all (is_filled p) us ≡ true → list_all (is_filled q) us ≡ true
    all_still [] a b = refl
    all_still (u ∷ us) a b =
        let v = and_parts (not (u.list == l)) (list_all (λ u. not (u.list == l)) us) a in
        let w = and_parts (is_filled p u) (list_all (is_filled p) us) b in
        and_from (is_filled q u) (list_all (is_filled q) us) (still u v.0 w.0) (all_still us v.1 w.1)

    among : (m : ℕ) → IsList q m → (m ≡ l) ⊎ IsAmong m (lists_of (sources_at sources order))
    among m is = split (m == l) refl
      where
        split : (b : Bool) → (m == l) ≡ b → (m ≡ l) ⊎ IsAmong m (lists_of (sources_at sources order))
        split true e = inl (grind (arith, nat_tests))
        split false e = inr (kept.known m (sym (ap is_some (lists.others m (λ k. absurd (let n = k in grind (arith, nat_tests))))) ∙ is))

-- spans where all lists are as they were
same_all : (p q : PoolValue) (ss : List SourceList) → HasSameLists p q → spans_of q ss ≡ spans_of p ss
same_all p q [] same = refl
same_all p q (s ∷ ss) same = (λ i. map (span_of s.id) (same_at p q s.list (same s.list) i) ++ same_all p q ss same i)

filled_all : (p q : PoolValue) (ss : List SourceList) → HasSameLists p q → list_all (is_filled p) ss ≡ true → list_all (is_filled q) ss ≡ true
filled_all p q ss same h = all_weaker (is_filled p) (is_filled q) ss (λ s f. ap (λ slot. is_some slot && nat_lt 0 (length (map (λ (h : Held). h.numbers) (unwrap_or slot [])))) (same s.list) ∙ f) h

-- they are kept in another pool that has the same lists
pub kept_again : (p q : PoolValue) (sources : List SourceList) (order : List ℕ) → HasSameLists p q → IsKeptIn p sources order → Stays p sources order q sources order
kept_again p q sources order same kept =
    let parts : flat q sources order ≡ flat p sources order = same_all p q (sources_at sources order) same in
    record {
      kept = record {
        places = kept.places;
        as_many = kept.as_many;
        few = kept.few;
        rising = kept.rising;
        filled = filled_all p q (sources_at sources order) same kept.filled;
        own = kept.own;
        known = λ l is. kept.known l (ap is_some (sym (same l)) ∙ is);
        merged = ap is_merged parts ∙ kept.merged;
        counted = kept.counted ∙ ap (λ ss. source_count (set_of ss)) (sym parts);
        small = subst (λ ss. length ss ≤ most_intervals) (sym parts) kept.small;
      };
      same = parts;
    }

-- ---- why there is no list more

pub unknown_fits : (p : PoolValue) (sources : List SourceList) (order : List ℕ) (t : Span) → IsKeptIn p sources order → are_others t.source (sources_at sources order) ≡ true → t.lo ≤ t.hi → length order < most_sources
    → source_count (with_span (set_of (flat p sources order)) t) ≤ most_sources
unknown_fits p sources order t kept others le few = let c = unknown_count p sources order t kept others le in omega (arith, c, few)

pub unknown_full : (p : PoolValue) (sources : List SourceList) (order : List ℕ) (t : Span) → IsKeptIn p sources order → are_others t.source (sources_at sources order) ≡ true → t.lo ≤ t.hi → most_sources ≤ length order
    → most_sources < source_count (with_span (set_of (flat p sources order)) t)
unknown_full p sources order t kept others le many = let c = unknown_count p sources order t kept others le in omega (arith, c, many)

pub fault_with : (p : PoolValue) (sources : List SourceList) (order : List ℕ) (t : Span) (f : SetFault) → IsKeptIn p sources order → are_others t.source (sources_at sources order) ≡ true → t.lo ≤ t.hi → length order < most_sources
    → IsListFault f p → IsFullExactly {T = Unit {0}} (Err f) (with_span (set_of (flat p sources order)) t)
fault_with p sources order t Memory kept others le few fault = unknown_fits p sources order t kept others le few
fault_with p sources order t SourcesFull kept others le few fault = absurd fault
fault_with p sources order t PoolFull kept others le few fault =
    let m = one_more (flat p sources order) t kept.merged le (apart_others p (sources_at sources order) t others) in
    let l = flat_length p (sources_at sources order) in
    (unknown_fits p sources order t kept others le few, crowded (fault (lists_of (sources_at sources order)) kept.known) m l)
  where
    as_listed : (ss : List SourceList) → length (lists_of ss) ≡ length ss
    as_listed [] = refl
    as_listed (s ∷ ss) = ap suc (as_listed ss)

    as_ordered : (is : List ℕ) → length (sources_at sources is) ≡ length is
    as_ordered [] = refl
    as_ordered (i ∷ is) = ap suc (as_ordered is)

    crowded : (most_intervals ≤ intervals_of p (lists_of (sources_at sources order))) ⊎ (most_intervals ≤ length (lists_of (sources_at sources order)))
        → interval_count (with_span (set_of (flat p sources order)) t) ≡ length (flat p sources order) + 1 → length (flat p sources order) ≡ intervals_of p (lists_of (sources_at sources order)) → HasManyIntervals (with_span (set_of (flat p sources order)) t)
    crowded (inl h) m l = omega (arith, h, m, l)
    crowded (inr h) m l = let a = as_listed (sources_at sources order) in let b = as_ordered order in absurd (omega (arith, h, a, b, few))

-- no list can be had
pub list_fault : (p : PoolValue) (f : PoolFault) → (f ≡ pools.Full → AreAllLists p) → IsListFault (fault_of f) p
list_fault p pools.Memory full = tt
list_fault p pools.Full full = λ lists known. inr (all_among most_cells lists (λ l a b. known l (full refl l a b)))

-- no cell can be had for it
pub cell_fault : (p q : PoolValue) (l : ℕ) (f : PoolFault) → Opened p l q → (f ≡ pools.Full → IsFull q) → IsListFault (fault_of f) p
cell_fault p q l pools.Memory opened full = tt
cell_fault p q l pools.Full opened full = λ lists known. inl (bound lists known)
  where
    same : (m : ℕ) → length (spans q m) ≡ length (spans p m)
    same m = split (m == l) refl
      where
        split : (b : Bool) → (m == l) ≡ b → length (spans q m) ≡ length (spans p m)
        split true e =
            let is : m ≡ l = grind (arith, nat_tests) in
            ap (λ n. length (spans q n)) is ∙ ap (λ slot. length (map (λ (h : Held). h.numbers) (unwrap_or slot []))) opened.now
            ∙ sym (ap (λ n. length (spans p n)) is ∙ ap (λ slot. length (map (λ (h : Held). h.numbers) (unwrap_or slot []))) opened.new)
        split false e = ap length (same_at p q m (opened.others m (λ k. absurd (let n = k in grind (arith, nat_tests)))))

    sums : (lists : List ℕ) → intervals_of q lists ≡ intervals_of p lists
    sums [] = refl
    sums (m ∷ ms) = (λ i. same m i + sums ms i)

    bound : (lists : List ℕ) → AreAmong p lists → most_intervals ≤ intervals_of p lists
    bound lists known =
        let w = stand_within q (l ∷ lists) (λ m is. split m (m == l) refl is) in
        let f = full refl in
        let s = sums lists in
        let n = ap (λ slot. length (map (λ (h : Held). h.numbers) (unwrap_or slot []))) opened.now in
        omega (arith, w, f, s, n)
      where
        split : (m : ℕ) (b : Bool) → (m == l) ≡ b → IsList q m → IsAmong m (l ∷ lists)
        split m true e is = inl (grind (arith, nat_tests))
        split m false e is = inr (known m (sym (ap is_some (opened.others m (λ k. absurd (let n = k in grind (arith, nat_tests))))) ∙ is))

-- ---- a span after the others

pub behind_flat : (p : PoolValue) (ss : List SourceList) (at : ℕ) (s : SourceList) (t : Span) → slice_get ss at ≡ Some s → s.id ≡ t.source → all_before (spans_of p ss) t ≡ true → AllByRecursion (λ i. IsBefore i (interval_of t)) (spans p s.list)
behind_flat p [] zero s t e same before = absurd cc
behind_flat p [] (suc n) s t e same before = absurd cc
behind_flat p (u ∷ us) zero s t e same before =
    let is : u ≡ s = cc in
    subst (λ (v : SourceList). AllByRecursion (λ i. IsBefore i (interval_of t)) (spans p v.list)) is
    (each (spans p u.list) (ap (λ (v : SourceList). v.id) is ∙ same) (all_parts (λ x. is_before x t) (spans_in p u) (spans_of p us) before).0)
  where
    one : (i : Interval) → u.id ≡ t.source → is_before (span_of u.id i) t ≡ true → i.hi + 1 < t.lo
    one i k b = grind (arith, nat_tests)

    each : (is : List Interval) → u.id ≡ t.source → list_all (λ x. is_before x t) (map (span_of u.id) is) ≡ true → AllByRecursion (λ i. IsBefore i (interval_of t)) is
    each [] k all = tt
    each (i ∷ is) k all = let w = and_parts (is_before (span_of u.id i) t) (list_all (λ x. is_before x t) (map (span_of u.id) is)) all in (one i k w.0, each is k w.1)
behind_flat p (u ∷ us) (suc n) s t e same before = behind_flat p us n s t e same (all_parts (λ x. is_before x t) (spans_in p u) (spans_of p us) before).1

pub apart_behind : (is : List Interval) (t : Span) → AllByRecursion (λ i. IsBefore i (interval_of t)) is → IsApart is (interval_of t)
apart_behind [] t all = tt
apart_behind (i ∷ is) t all = (inl all.0, apart_behind is t all.1)

-- no source is greater than that of the span
ids_behind : (p : PoolValue) (ss : List SourceList) (t : Span) → list_all (is_filled p) ss ≡ true → all_before (spans_of p ss) t ≡ true → list_all (λ s. nat_le s.id t.source) ss ≡ true
ids_behind p [] t filled before = refl
ids_behind p (s ∷ ss) t filled before =
    let f = and_parts (is_filled p s) (list_all (is_filled p) ss) filled in
    let b = all_parts (λ x. is_before x t) (spans_in p s) (spans_of p ss) before in
    and_from (nat_le s.id t.source) (list_all (λ s. nat_le s.id t.source) ss) (here (spans p s.list) (and_parts (is_list p s.list) (nat_lt 0 (length (spans p s.list))) f.0).1 b.0) (ids_behind p ss t f.1 b.1)
  where
    one : (i : Interval) → is_before (span_of s.id i) t ≡ true → nat_le s.id t.source ≡ true
    one i b = grind (arith, nat_tests)

    here : (is : List Interval) → nat_lt 0 (length is) ≡ true → list_all (λ x. is_before x t) (map (span_of s.id) is) ≡ true → nat_le s.id t.source ≡ true
    here [] some all = absurd cc
    here (i ∷ is) some all = one i (and_parts (is_before (span_of s.id i) t) (list_all (λ x. is_before x t) (map (span_of s.id) is)) all).0

-- where the last is another, all are less
all_less : (ss : List SourceList) (id : ℕ) → are_ascending ss ≡ true → list_all (λ s. nat_le s.id id) ss ≡ true → IsNoSourceAt ss (length ss - 1) id → list_all (λ s. nat_lt s.id id) ss ≡ true
all_less [] id r le none = refl
all_less (s ∷ []) id r le none = and_from (nat_lt s.id id) true (less (none s refl) (and_parts (nat_le s.id id) true le).0) refl
  where
    less : s.id ≢ id → nat_le s.id id ≡ true → nat_lt s.id id ≡ true
    less ne le = grind (arith, nat_tests)
all_less (s ∷ u ∷ us) id r le none =
    let w = and_parts (list_all (λ t. nat_lt s.id t.id) (u ∷ us)) (are_ascending (u ∷ us)) r in
    let l = and_parts (nat_le s.id id) (list_all (λ s. nat_le s.id id) (u ∷ us)) le in
    let rest = all_less (u ∷ us) id w.1 l.1 (λ t e. none t (last_of t e)) in
    and_from (nat_lt s.id id) (list_all (λ s. nat_lt s.id id) (u ∷ us)) (less (and_parts (nat_lt s.id u.id) (list_all (λ t. nat_lt s.id t.id) us) w.0).0 (and_parts (nat_lt u.id id) (list_all (λ s. nat_lt s.id id) us) rest).0) rest
  where
    less : nat_lt s.id u.id ≡ true → nat_lt u.id id ≡ true → nat_lt s.id id ≡ true
    less a b = grind (arith, nat_tests)

    last_of : (t : SourceList) → slice_get (u ∷ us) (length (u ∷ us) - 1) ≡ Some t → slice_get (s ∷ u ∷ us) (length (s ∷ u ∷ us) - 1) ≡ Some t
    last_of t e = ap (slice_get (s ∷ u ∷ us)) (let k : length (s ∷ u ∷ us) - 1 ≡ suc (length (u ∷ us) - 1) = omega arith in k) ∙ e

pub ends_at : (p : PoolValue) (sources : List SourceList) (order : List ℕ) (t : Span) → IsKeptIn p sources order → all_before (flat p sources order) t ≡ true → IsNoSourceAt (sources_at sources order) (length order - 1) t.source
    → IsSourcePlace (sources_at sources order) t.source (length order) × (are_others t.source (sources_at sources order) ≡ true)
ends_at p sources order t kept before none =
    let ss = sources_at sources order in
    let long : length order ≡ length ss = as_ordered order in
    let less = all_less ss t.source kept.rising (ids_behind p ss t kept.filled before) (subst (λ n. IsNoSourceAt ss (n - 1) t.source) long none) in
    let place : IsSourcePlace ss t.source (length order) = record {
      bound = omega (arith, long);
      before = ap (λ n. list_all (λ s. nat_lt s.id t.source) (take n ss)) long ∙ ap (list_all (λ s. nat_lt s.id t.source)) (take-length ss) ∙ less;
      behind = ap (λ n. list_all (λ s. not (nat_lt s.id t.source)) (drop n ss)) long ∙ ap (list_all (λ s. not (nat_lt s.id t.source))) (drop-length ss);
    } in
    (place, all_weaker (λ s. nat_lt s.id t.source) (λ s. not (t.source == s.id)) ss (λ s lt. other s lt) less)
  where
    other : (s : SourceList) → nat_lt s.id t.source ≡ true → not (t.source == s.id) ≡ true
    other s lt = grind (arith, nat_tests)

    as_ordered : (is : List ℕ) → length is ≡ length (sources_at sources is)
    as_ordered [] = refl
    as_ordered (i ∷ is) = ap suc (as_ordered is)

-- ---- spans from the first on

none_listed : (p : PoolValue) (l : ℕ) → p.lists ≡ [] → IsList p l → ⊥
none_listed p l none is = nothing l (sym (ap (λ slots. is_some (slice_index_or slots l None)) none) ∙ is)
  where
    no_slots : List (Option (List Held))
    no_slots = []

    nothing : (l : ℕ) → is_some (slice_index_or no_slots l None) ≡ true → ⊥
    nothing zero h = absurd cc
    nothing (suc l) h = absurd cc

-- no source, where there is no list
pub kept_none : (p : PoolValue) → p.lists ≡ [] → IsKeptIn p [] []
kept_none p none = record {
  places = refl;
  as_many = refl;
  few = omega arith;
  rising = refl;
  filled = refl;
  own = refl;
  known = λ l is. absurd (none_listed p l none is);
  merged = refl;
  counted = sym no_sources;
  small = omega arith;
}

-- the next of merged spans
pub record IsNext (xs : List Span) (t : Span) (more all : List Span) : Type 0 where
  pub filled : t.lo ≤ t.hi
  pub before : all_before xs t ≡ true
  pub merged : is_merged (xs ++ t ∷ []) ≡ true
  pub set : set_of (xs ++ t ∷ []) ≡ with_span (set_of xs) t
  pub longer : length (xs ++ t ∷ []) ≤ length all
  pub parts : (xs ++ t ∷ []) ++ more ≡ all

pub next_of : (xs : List Span) (t : Span) (more all : List Span) → xs ++ t ∷ more ≡ all → is_merged all ≡ true → IsNext xs t more all
next_of xs t more all parts merged =
    let split : (xs ++ t ∷ []) ++ more ≡ all = append_assoc xs (t ∷ []) more ∙ parts in
    let front = merged_front (xs ++ t ∷ []) more (ap is_merged split ∙ merged) in
    let pushed = merged_pushed xs t front in
    let long = sym (length-append (xs ++ t ∷ []) more) ∙ ap length split in
    record {
      filled = pushed.filled;
      before = pushed.before;
      merged = front;
      set = set_of-append xs (t ∷ []) ∙ with_one (set_of xs) t;
      longer = omega (arith, long);
      parts = split;
    }

-- where it is refused, memory was, or all spans are too many
pub refused_next : (xs : List Span) (t : Span) (more all : List Span) (f : SetFault) → IsNext xs t more all → source_count (set_of all) ≤ most_sources → IsFullExactly {T = Unit {0}} (Err f) (with_span (set_of xs) t) → IsTooLong all f
refused_next xs t more all Memory next few full = tt
refused_next xs t more all SourcesFull next few full =
    let less = fewer_sources (set_of (xs ++ t ∷ [])) (set_of all) (λ q h.
    contains-set_of all q ∙ ap (λ ss. has ss q) (sym next.parts) ∙ list_any-append (λ s. within s q) (xs ++ t ∷ []) more ∙ ap (λ b. b || has more q) (sym (contains-set_of (xs ++ t ∷ []) q) ∙ h)) in
    absurd (let s = ap source_count next.set in omega (arith, full, less, few, s))
refused_next xs t more all PoolFull next few full =
    let i = ap length (sym (runs_merged (xs ++ t ∷ []) next.merged) ∙ ap runs next.set) in
    let long = next.longer in
    let m = full.1 in
    omega (arith, m, i, long)

-- spans that have grown by the next
pub grown_next : (p q : PoolValue) (sources sources' : List SourceList) (order order' : List ℕ) (t : Span) (more all : List Span) → IsNext (flat p sources order) t more all → Grown p sources order t q sources' order' → flat q sources' order' ++ more ≡ all
grown_next p q sources sources' order order' t more all next grown =
    let same = equal_lists (flat q sources' order') (flat p sources order ++ t ∷ []) grown.kept.merged next.merged
    (added_set (flat p sources order) (flat q sources' order') (set_of (flat p sources order)) t refl grown.list ∙ sym next.set) in
    ap (λ xs. xs ++ more) same ∙ next.parts
