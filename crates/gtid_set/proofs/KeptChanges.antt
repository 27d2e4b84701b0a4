-- Changes of spans that are kept in a pool.
use Rattle.std.proofs.Common.{◌≡◌, ◌≢◌, ◌≤◌, ◌<◌, ◌+◌, ◌⊎◌, ℕ, zero, suc, Bool, true, false, cond, not, ◌&&◌, ◌||◌, ◌==◌, nat_lt, List, [], ◌∷◌, ◌++◌, length, map, take, drop, Some, refl, sym, ap, subst, ◌∙◌, arith, inl, inr}
use Rattle.std.specs.FinSet as set
use Rattle.std.specs.List.{list_all, slice_get}
use Rattle.std.proofs.lemmas.Bool.{and_parts, and_from}
use Rattle.std.proofs.lemmas.Bool.Decides.{nat_tests}
use Rattle.std.proofs.lemmas.List.{length-append, take-append-drop, get_or_append_left}
use Rattle.std.proofs.Math.Seq.{get_or-append_seam}
use Rattle.lemmas.proofs.Tests.{or_swap}
use Rattle.interval_pool.specs.declared.interval.Interval.{Interval}
use Rattle.interval_pool.specs.Chains.{IsAmong}
use Rattle.interval_pool.specs.Intervals.{IsBefore, AreMerged, IsApart, has as has_number, covers as covers_number}
use Rattle.interval_pool.specs.Values.{PoolValue, spans, is_list, AddedTo}
use Rattle.gtid_text.specs.declared.Gtid.{Gtid}
use Rattle.gtid_text.specs.declared.Span.{Span}
use Rattle.gtid_set.specs.declared.sources.SourceList.{SourceList}
use Rattle.gtid_set.specs.Sets.{gtid, interval}
use Rattle.gtid_set.specs.Spans.{set_of, is_before, is_merged, has}
use Rattle.gtid_set.specs.Sweep.{within, KnowsSource}
use Rattle.gtid_set.specs.Full.{interval_count}
use Rattle.gtid_set.specs.Kept.{span_of, interval_of, spans_in, spans_of, are_ascending, have_own, lists_of, sources_at, source_at, are_places, is_filled, knows, are_others, IsSourcePlace}
use Rattle.gtid_set.proofs.SpanLemmas.{all_weaker, all_weaker2, merged_head, merged_cons, all_joined, all_parts}
use Rattle.gtid_set.proofs.SetSources.{added_set}
use Rattle.gtid_set.proofs.RunLemmas.{runs_merged}
use Rattle.gtid_set.proofs.KeptLemmas.{has_spans_of, got_all, knows_at, same_at, knows_other}

-- ---- numbers are added to the list of a source

or_turn : (a b : Bool) → (a || b) ≡ (b || a)
or_turn true true = refl
or_turn true false = refl
or_turn false true = refl
or_turn false false = refl

pub knows_added : (p q : PoolValue) (ss : List SourceList) (at : ℕ) (s : SourceList) (t : Span) (g : Gtid) → are_ascending ss ≡ true → have_own ss ≡ true → slice_get ss at ≡ Some s → s.id ≡ t.source
    → AddedTo p s.list (interval_of t) q → knows q ss g ≡ (within t g || knows p ss g)
knows_added p q ss at s t g r own e same added = split (g.source == s.id) refl
  where
    split : (b : Bool) → (g.source == s.id) ≡ b → knows q ss g ≡ (within t g || knows p ss g)
    split true b =
        let here : g.source ≡ s.id = grind (arith, nat_tests) in
        let hit : (g.source == t.source) ≡ true = grind (arith, nat_tests) in
        knows_at q ss at s g r e here ∙ added.numbers g.number ∙ or_turn (has_number (spans p s.list) g.number) (covers_number (interval_of t) g.number)
        ∙ (λ i. (sym hit i && covers_number (interval_of t) g.number) || sym (knows_at p ss at s g r e here) i)
    split false b =
        let there : g.source ≢ s.id = (λ k. absurd (let m = k in grind (arith, nat_tests))) in
        let miss : (g.source == t.source) ≡ false = grind (arith, nat_tests) in
        knows_other p q ss at s g own e (λ m ne. added.others m ne) there ∙ sym (ap (λ b. (b && covers_number (interval_of t) g.number) || knows p ss g) miss)

-- a list that has a number has intervals
pub has_some : (is : List Interval) (n : ℕ) → has_number is n ≡ true → nat_lt 0 (length is) ≡ true
has_some [] n e = absurd cc
has_some (i ∷ is) n e = positive (length is)
  where
    positive : (n : ℕ) → nat_lt 0 (suc n) ≡ true
    positive n = grind (arith, nat_tests)

pub filled_added : (p q : PoolValue) (l : ℕ) (t : Span) → t.lo ≤ t.hi → AddedTo p l (interval_of t) q → (s : SourceList) → is_filled p s ≡ true → is_filled q s ≡ true
filled_added p q l t le added s filled = split (s.list == l) refl
  where
    w : (is_list p s.list ≡ true) × (nat_lt 0 (length (spans p s.list)) ≡ true)
    w = and_parts (is_list p s.list) (nat_lt 0 (length (spans p s.list))) filled

    covered : covers_number (interval_of t) t.lo ≡ true
    covered = grind (arith, nat_tests)

    or_true : (b : Bool) → (b || true) ≡ true
    or_true true = refl
    or_true false = refl

    split : (b : Bool) → (s.list == l) ≡ b → is_filled q s ≡ true
    split true b =
        let same : s.list ≡ l = grind (arith, nat_tests) in
        let number : has_number (spans q l) t.lo ≡ true = added.numbers t.lo ∙ ap (λ c. has_number (spans p l) t.lo || c) covered ∙ or_true (has_number (spans p l) t.lo) in
        and_from (is_list q s.list) (nat_lt 0 (length (spans q s.list))) (added.lists s.list ∙ w.0) (ap (λ m. nat_lt 0 (length (spans q m))) same ∙ has_some (spans q l) t.lo number)
    split false b =
        let other : s.list ≢ l = (λ k. absurd (let m = k in grind (arith, nat_tests))) in
        and_from (is_list q s.list) (nat_lt 0 (length (spans q s.list))) (added.lists s.list ∙ w.0) (ap (λ is. nat_lt 0 (length is)) (same_at p q s.list (added.others s.list other)) ∙ w.1)

-- the first number of a source that has intervals
pub first_number : (p : PoolValue) (ss : List SourceList) (at : ℕ) (s : SourceList) → are_ascending ss ≡ true → slice_get ss at ≡ Some s → list_all (is_filled p) ss ≡ true → ((l : ℕ) → AreMerged (spans p l)) → KnowsSource true (spans_of p ss) s.id
first_number p ss at s r e filled merged = given (spans p s.list) refl
  where
    some : nat_lt 0 (length (spans p s.list)) ≡ true
    some = (and_parts (is_list p s.list) (nat_lt 0 (length (spans p s.list))) (got_all (is_filled p) ss at s filled e)).1

    lowest : (i : Interval) (is : List Interval) → i.lo ≤ i.hi → has_number (i ∷ is) i.lo ≡ true
    lowest i is le = let c : covers_number i i.lo ≡ true = grind (arith, nat_tests) in ap (λ b. b || has_number is i.lo) c

    given : (is : List Interval) → spans p s.list ≡ is → KnowsSource true (spans_of p ss) s.id
    given [] none = absurd (let k = ap (λ is. nat_lt 0 (length is)) none in let m = some in cc)
    given (i ∷ is) parts =
        let le = (subst AreMerged parts (merged s.list)).0 in
        (i.lo, has_spans_of p ss (gtid s.id i.lo) ∙ knows_at p ss at s (gtid s.id i.lo) r e refl ∙ ap (λ xs. has_number xs i.lo) parts ∙ lowest i is le)

-- ---- one span more, apart from the others

abbrev pub is_apart : Span → Span → Bool
is_apart t s = is_before s t || is_before t s

-- a span at its place
abbrev pub put : Span → List Span → List Span
put t [] = t ∷ []
put t (s ∷ ss) = cond (is_before t s) (t ∷ s ∷ ss) (s ∷ put t ss)

pub record IsPut (t : Span) (ss new : List Span) : Type 0 where
  pub merged : is_merged new ≡ true
  pub longer : length new ≡ length ss + 1
  pub has : (q : Gtid) → has new q ≡ (within t q || has ss q)
  pub later : (u : Span) → is_before u t ≡ true → list_all (is_before u) ss ≡ true → list_all (is_before u) new ≡ true

pub is_put : (t : Span) (ss : List Span) → is_merged ss ≡ true → t.lo ≤ t.hi → list_all (is_apart t) ss ≡ true → IsPut t ss (put t ss)
is_put t [] m le apart = record {
  merged = merged_cons t [] (record { filled = le; after = refl; tail = refl });
  longer = refl;
  has = λ q. refl;
  later = λ u b all. and_from (is_before u t) true b refl;
}
is_put t (s ∷ ss) m le apart = split (is_before t s) refl (is_put t ss (merged_head s ss m).tail le (and_parts (is_apart t s) (list_all (is_apart t) ss) apart).1)
  where
    head : (s.lo ≤ s.hi) × ((list_all (is_before s) ss ≡ true) × (is_merged ss ≡ true))
    head = let h = merged_head s ss m in (h.filled, (h.after, h.tail))

    here : (is_before s t || is_before t s) ≡ true
    here = (and_parts (is_apart t s) (list_all (is_apart t) ss) apart).0

    beyond : (u : Span) → is_before t s ≡ true → is_before s u ≡ true → is_before t u ≡ true
    beyond u b c = let f = head.0 in grind (arith, nat_tests)

    left : (a b : Bool) → (a || b) ≡ true → b ≡ false → a ≡ true
    left true b e f = refl
    left false true e f = absurd cc
    left false false e f = absurd cc

    split : (b : Bool) → is_before t s ≡ b → IsPut t ss (put t ss) → IsPut t (s ∷ ss) (cond b (t ∷ s ∷ ss) (s ∷ put t ss))
    split true b rest =
        let behind = and_from (is_before t s) (list_all (is_before t) ss) b (all_weaker (is_before s) (is_before t) ss (λ u c. beyond u b c) head.1.0) in
        record {
          merged = merged_cons t (s ∷ ss) (record { filled = le; after = behind; tail = m });
          longer = omega arith;
          has = λ q. refl;
          later = λ u c all. and_from (is_before u t) (list_all (is_before u) (s ∷ ss)) c all;
        }
    split false b rest =
        let before = left (is_before s t) (is_before t s) here b in
        let long = rest.longer in
        record {
          merged = merged_cons s (put t ss) (record { filled = head.0; after = rest.later s before head.1.0; tail = rest.merged });
          longer = omega (arith, long);
          has = λ q. ap (λ c. within s q || c) (rest.has q) ∙ or_swap (within s q) (within t q) (has ss q);
          later = λ u c all. let w = and_parts (is_before u s) (list_all (is_before u) ss) all in and_from (is_before u s) (list_all (is_before u) (put t ss)) w.0 (rest.later u c w.1);
        }

pub one_more : (ss : List Span) (t : Span) → is_merged ss ≡ true → t.lo ≤ t.hi → list_all (is_apart t) ss ≡ true → interval_count (set.union (set_of ss) (interval t.source t.lo t.hi)) ≡ length ss + 1
one_more ss t m le apart =
    let p = is_put t ss m le apart in
    ap interval_count (sym (added_set ss (put t ss) (set_of ss) t refl (record { merged = p.merged; has = p.has }))) ∙ ap length (runs_merged (put t ss) p.merged) ∙ p.longer

-- spans of other sources are apart, and those of a list that an interval does not touch
apart_less : (t s : Span) → not (t.source == s.source) ≡ true → is_apart t s ≡ true
apart_less t s ne = grind (arith, nat_tests)

pub apart_others : (p : PoolValue) (ss : List SourceList) (t : Span) → are_others t.source ss ≡ true → list_all (is_apart t) (spans_of p ss) ≡ true
apart_others p [] t others = refl
apart_others p (s ∷ ss) t others =
    let w = and_parts (not (t.source == s.id)) (are_others t.source ss) others in
    all_joined (is_apart t) (spans_in p s) (spans_of p ss) (each (spans p s.list) w.0) (apart_others p ss t w.1)
  where
    each : (is : List Interval) → not (t.source == s.id) ≡ true → list_all (is_apart t) (map (span_of s.id) is) ≡ true
    each [] ne = refl
    each (i ∷ is) ne = and_from (is_apart t (span_of s.id i)) (list_all (is_apart t) (map (span_of s.id) is)) (apart_less t (span_of s.id i) ne) (each is ne)

apart_in : (id : ℕ) (is : List Interval) (t : Span) → t.source ≡ id → IsApart is (interval_of t) → list_all (is_apart t) (map (span_of id) is) ≡ true
apart_in id [] t same a = refl
apart_in id (i ∷ is) t same a = and_from (is_apart t (span_of id i)) (list_all (is_apart t) (map (span_of id) is)) (one a.0) (apart_in id is t same a.1)
  where
    one : IsBefore i (interval_of t) ⊎ IsBefore (interval_of t) i → is_apart t (span_of id i) ≡ true
    one (inl b) = let lt : i.hi + 1 < t.lo = b in grind (arith, nat_tests)
    one (inr b) = let lt : t.hi + 1 < i.lo = b in grind (arith, nat_tests)

pub apart_at : (p : PoolValue) (ss : List SourceList) (at : ℕ) (s : SourceList) (t : Span) → are_ascending ss ≡ true → slice_get ss at ≡ Some s → s.id ≡ t.source → IsApart (spans p s.list) (interval_of t) → list_all (is_apart t) (spans_of p ss) ≡ true
apart_at p [] zero s t r e same a = absurd cc
apart_at p [] (suc n) s t r e same a = absurd cc
apart_at p (u ∷ us) zero s t r e same a =
    let is : u ≡ s = cc in
    let w = and_parts (list_all (λ v. nat_lt u.id v.id) us) (are_ascending us) r in
    all_joined (is_apart t) (spans_in p u) (spans_of p us)
    (apart_in u.id (spans p u.list) t (sym same ∙ sym (ap (λ (v : SourceList). v.id) is)) (subst (λ (v : SourceList). IsApart (spans p v.list) (interval_of t)) (sym is) a))
    (apart_others p us t (all_weaker (λ v. nat_lt u.id v.id) (λ v. not (t.source == v.id)) us (λ v lt. differs v lt is) w.0))
  where
    differs : (v : SourceList) → nat_lt u.id v.id ≡ true → u ≡ s → not (t.source == v.id) ≡ true
    differs v lt is = let k : t.source ≡ u.id = sym same ∙ sym (ap (λ (v : SourceList). v.id) is) in grind (arith, nat_tests)
apart_at p (u ∷ us) (suc n) s t r e same a =
    let w = and_parts (list_all (λ v. nat_lt u.id v.id) us) (are_ascending us) r in
    let lt = got_all (λ v. nat_lt u.id v.id) us n s w.0 e in
    let ne : not (t.source == u.id) ≡ true = grind (arith, nat_tests) in
    all_joined (is_apart t) (spans_in p u) (spans_of p us) (apart_others_in ne) (apart_at p us n s t w.1 e same a)
  where
    apart_others_in : not (t.source == u.id) ≡ true → list_all (is_apart t) (spans_in p u) ≡ true
    apart_others_in ne = (all_parts (is_apart t) (spans_in p u) (spans_of p []) (apart_others p (u ∷ []) t (and_from (not (t.source == u.id)) true ne refl))).0

-- ---- a source more

-- sources with one at a place
abbrev pub with_source : List SourceList → ℕ → SourceList → List SourceList
with_source ss at s = take at ss ++ s ∷ drop at ss

pub all_with : (test : SourceList → Bool) (ss : List SourceList) (at : ℕ) (s : SourceList) → list_all test ss ≡ true → test s ≡ true → list_all test (with_source ss at s) ≡ true
all_with test ss zero s all h = and_from (test s) (list_all test ss) h all
all_with test [] (suc n) s all h = and_from (test s) true h refl
all_with test (t ∷ ts) (suc n) s all h = let w = and_parts (test t) (list_all test ts) all in and_from (test t) (list_all test (with_source ts n s)) w.0 (all_with test ts n s w.1 h)

pub rising_with : (ss : List SourceList) (at : ℕ) (s : SourceList) → are_ascending ss ≡ true → IsSourcePlace ss s.id at → are_others s.id ss ≡ true → are_ascending (with_source ss at s) ≡ true
rising_with ss zero s r place others = and_from (list_all (λ u. nat_lt s.id u.id) ss) (are_ascending ss) (all_weaker2 (λ u. not (s.id == u.id)) (λ u. not (nat_lt u.id s.id)) (λ u. nat_lt s.id u.id) ss (λ u ne ge. more u ne ge) others place.behind) r
  where
    more : (u : SourceList) → not (s.id == u.id) ≡ true → not (nat_lt u.id s.id) ≡ true → nat_lt s.id u.id ≡ true
    more u ne ge = grind (arith, nat_tests)
rising_with [] (suc n) s r place others = refl
rising_with (t ∷ ts) (suc n) s r place others =
    let w = and_parts (list_all (λ u. nat_lt t.id u.id) ts) (are_ascending ts) r in
    let b = and_parts (nat_lt t.id s.id) (list_all (λ u. nat_lt u.id s.id) (take n ts)) place.before in
    let bound = place.bound in
    and_from (list_all (λ u. nat_lt t.id u.id) (with_source ts n s)) (are_ascending (with_source ts n s)) (all_with (λ u. nat_lt t.id u.id) ts n s w.0 b.0)
    (rising_with ts n s w.1 (record { bound = omega (arith, bound); before = b.1; behind = place.behind }) (and_parts (not (s.id == t.id)) (are_others s.id ts) others).1)

pub own_with : (ss : List SourceList) (at : ℕ) (s : SourceList) → have_own ss ≡ true → list_all (λ t. not (t.list == s.list)) ss ≡ true → have_own (with_source ss at s) ≡ true
own_with ss zero s own apart = and_from (list_all (λ t. not (t.list == s.list)) ss) (have_own ss) apart own
own_with [] (suc n) s own apart = refl
own_with (t ∷ ts) (suc n) s own apart =
    let w = and_parts (list_all (λ u. not (u.list == t.list)) ts) (have_own ts) own in
    let a = and_parts (not (t.list == s.list)) (list_all (λ t. not (t.list == s.list)) ts) apart in
    and_from (list_all (λ u. not (u.list == t.list)) (with_source ts n s)) (have_own (with_source ts n s)) (all_with (λ u. not (u.list == t.list)) ts n s w.0 (turn t a.0)) (own_with ts n s w.1 a.1)
  where
    turn : (t : SourceList) → not (t.list == s.list) ≡ true → not (s.list == t.list) ≡ true
    turn t h = grind (arith, nat_tests)

pub among_with : (ss : List SourceList) (at : ℕ) (s : SourceList) (l : ℕ) → (l ≡ s.list) ⊎ IsAmong l (lists_of ss) → IsAmong l (lists_of (with_source ss at s))
among_with ss zero s l h = h
among_with [] (suc n) s l h = h
among_with (t ∷ ts) (suc n) s l (inl e) = inr (among_with ts n s l (inl e))
among_with (t ∷ ts) (suc n) s l (inr (inl e)) = inl e
among_with (t ∷ ts) (suc n) s l (inr (inr a)) = inr (among_with ts n s l (inr a))

pub knows_with : (p : PoolValue) (ss : List SourceList) (at : ℕ) (s : SourceList) (g : Gtid) → knows p (with_source ss at s) g ≡ (((g.source == s.id) && has_number (spans p s.list) g.number) || knows p ss g)
knows_with p ss zero s g = refl
knows_with p [] (suc n) s g = refl
knows_with p (t ∷ ts) (suc n) s g =
    ap (λ b. ((g.source == t.id) && has_number (spans p t.list) g.number) || b) (knows_with p ts n s g)
    ∙ or_swap ((g.source == t.id) && has_number (spans p t.list) g.number) ((g.source == s.id) && has_number (spans p s.list) g.number) (knows p ts g)

-- the sources at places, with one more after them
map_places : (sources : List SourceList) (s : SourceList) (is : List ℕ) → are_places sources is ≡ true → sources_at (sources ++ s ∷ []) is ≡ sources_at sources is
map_places sources s [] all = refl
map_places sources s (i ∷ is) all =
    let w = and_parts (nat_lt i (length sources)) (are_places sources is) all in
    (λ j. get_or_append_left sources (s ∷ []) (record { id = 0; list = 0 }) i (less w.0) j ∷ map_places sources s is w.1 j)
  where
    less : nat_lt i (length sources) ≡ true → i < length sources
    less lt = grind (arith, nat_tests)

pub listed_with : (sources : List SourceList) (order : List ℕ) (s : SourceList) (at : ℕ) → are_places sources order ≡ true → sources_at (sources ++ s ∷ []) (take at order ++ length sources ∷ drop at order) ≡ with_source (sources_at sources order) at s
listed_with sources order s zero all = (λ i. last_is i ∷ map_places sources s order all i)
  where
    last_is : source_at (sources ++ s ∷ []) (length sources) ≡ s
    last_is = get_or-append_seam sources s [] (record { id = 0; list = 0 })
listed_with sources [] s (suc n) all = ap (λ t. t ∷ []) (get_or-append_seam sources s [] (record { id = 0; list = 0 }))
listed_with sources (i ∷ is) s (suc n) all =
    let w = and_parts (nat_lt i (length sources)) (are_places sources is) all in
    (λ j. get_or_append_left sources (s ∷ []) (record { id = 0; list = 0 }) i (less w.0) j ∷ listed_with sources is s n w.1 j)
  where
    less : nat_lt i (length sources) ≡ true → i < length sources
    less lt = grind (arith, nat_tests)

pub places_with : (sources : List SourceList) (order : List ℕ) (s : SourceList) (at : ℕ) → are_places sources order ≡ true → are_places (sources ++ s ∷ []) (take at order ++ length sources ∷ drop at order) ≡ true
places_with sources order s at all =
    let long : length (sources ++ s ∷ []) ≡ length sources + 1 = length-append sources (s ∷ []) in
    let w = all_parts (λ i. nat_lt i (length sources)) (take at order) (drop at order) (ap (are_places sources) (take-append-drop at order) ∙ all) in
    all_joined (λ i. nat_lt i (length (sources ++ s ∷ []))) (take at order) (length sources ∷ drop at order) (further (take at order) long w.0)
    (and_from (nat_lt (length sources) (length (sources ++ s ∷ []))) (list_all (λ i. nat_lt i (length (sources ++ s ∷ []))) (drop at order)) (last long) (further (drop at order) long w.1))
  where
    last : length (sources ++ s ∷ []) ≡ length sources + 1 → nat_lt (length sources) (length (sources ++ s ∷ [])) ≡ true
    last long = grind (arith, nat_tests)

    far : (i : ℕ) → length (sources ++ s ∷ []) ≡ length sources + 1 → nat_lt i (length sources) ≡ true → nat_lt i (length (sources ++ s ∷ [])) ≡ true
    far i long lt = grind (arith, nat_tests)

    further : (is : List ℕ) → length (sources ++ s ∷ []) ≡ length sources + 1 → list_all (λ i. nat_lt i (length sources)) is ≡ true → list_all (λ i. nat_lt i (length (sources ++ s ∷ []))) is ≡ true
    further is long h = all_weaker (λ i. nat_lt i (length sources)) (λ i. nat_lt i (length (sources ++ s ∷ []))) is (λ i lt. far i long lt) h

-- ---- too many lists

abbrev pub deleted : ℕ → List ℕ → List ℕ
deleted n [] = []
deleted n (m ∷ ms) = cond (m == n) ms (m ∷ deleted n ms)

fewer_deleted : (n : ℕ) (ms : List ℕ) → IsAmong n ms → length (deleted n ms) + 1 ≡ length ms
fewer_deleted n [] among = absurd among
fewer_deleted n (m ∷ ms) among = split (m == n) refl (λ a. fewer_deleted n ms a) among
  where
    split : (b : Bool) → (m == n) ≡ b → (IsAmong n ms → length (deleted n ms) + 1 ≡ length ms) → (n ≡ m) ⊎ IsAmong n ms → length (cond b ms (m ∷ deleted n ms)) + 1 ≡ length (m ∷ ms)
    split true b more h = omega arith
    split false b more (inl e) = absurd (let k = b in grind (arith, nat_tests))
    split false b more (inr a) = let r = more a in omega (arith, r)

still_among : (n l : ℕ) (ms : List ℕ) → l ≢ n → IsAmong l ms → IsAmong l (deleted n ms)
still_among n l [] ne among = among
still_among n l (m ∷ ms) ne among = split (m == n) refl (λ a. still_among n l ms ne a) among
  where
    split : (b : Bool) → (m == n) ≡ b → (IsAmong l ms → IsAmong l (deleted n ms)) → (l ≡ m) ⊎ IsAmong l ms → IsAmong l (cond b ms (m ∷ deleted n ms))
    split true b more (inl e) = absurd (ne (let k = b in grind (arith, nat_tests)))
    split true b more (inr a) = a
    split false b more (inl e) = inl e
    split false b more (inr a) = inr (more a)

pub all_among : (n : ℕ) (ms : List ℕ) → ((l : ℕ) → 1 ≤ l → l ≤ n → IsAmong l ms) → n ≤ length ms
all_among zero ms h = omega arith
all_among (suc n) ms h =
    let there = h (suc n) (omega arith) (omega arith) in
    let rest = all_among n (deleted (suc n) ms) (λ l a b. still_among (suc n) l ms (λ e. absurd (omega (arith, e, b))) (h l a (omega (arith, b)))) in
    let fewer = fewer_deleted (suc n) ms there in
    omega (arith, rest, fewer)
