-- Spans kept in a pool: what they have, and that they are merged.
use Rattle.std.proofs.Common.{◌≡◌, ◌≢◌, ◌≤◌, ◌<◌, ◌+◌, ℕ, zero, suc, Bool, true, false, not, ◌&&◌, ◌||◌, ◌==◌, nat_lt, List, [], ◌∷◌, ◌++◌, length, map, take, Some, None, get_or, refl, sym, ap, subst, ◌∙◌, arith}
use Rattle.std.specs.List.{list_all, slice_get, AllByRecursion}
use Rattle.std.specs.Prelude.{unwrap_or}
use Rattle.std.proofs.Math.Bool.{and-or_distrib_left}
use Rattle.std.proofs.lemmas.Bool.{and_parts, and_from}
use Rattle.std.proofs.lemmas.Bool.Decides.{nat_tests}
use Rattle.std.proofs.lemmas.List.{length-append}
use Rattle.std.proofs.lemmas.List.Folds.{list_any-append}
use Rattle.interval_pool.specs.declared.interval.Interval.{Interval}
use Rattle.interval_pool.specs.Intervals.{IsBefore, AreMerged, has as has_number, covers as covers_number}
use Rattle.interval_pool.specs.Values.{PoolValue, slot_at, spans, intervals_of, Held}
use Rattle.gtid_text.specs.declared.Gtid.{Gtid}
use Rattle.gtid_text.specs.declared.Span.{Span}
use Rattle.gtid_set.specs.declared.sources.SourceList.{SourceList}
use Rattle.gtid_set.specs.Spans.{is_before, is_merged, has}
use Rattle.gtid_set.specs.Sweep.{within}
use Rattle.gtid_set.specs.Kept.{span_of, spans_in, spans_of, are_ascending, have_own, sources_at, source_at, are_places, lists_of, knows, are_others, KeepsBut, IsSourcePlace}
use Rattle.gtid_set.proofs.SpanLemmas.{all_weaker, any_none, merged_head, merged_cons, all_joined}

-- ---- what the spans have

none_and : (b : Bool) → false ≡ (b && false)
none_and true = refl
none_and false = refl

pub has_span_of : (id : ℕ) (is : List Interval) (q : Gtid) → has (map (span_of id) is) q ≡ ((q.source == id) && has_number is q.number)
has_span_of id [] q = none_and (q.source == id)
has_span_of id (i ∷ is) q =
    ap (λ b. ((q.source == id) && covers_number i q.number) || b) (has_span_of id is q)
    ∙ sym (and-or_distrib_left (q.source == id) (covers_number i q.number) (has_number is q.number))

pub has_spans_of : (p : PoolValue) (ss : List SourceList) (q : Gtid) → has (spans_of p ss) q ≡ knows p ss q
has_spans_of p [] q = refl
has_spans_of p (s ∷ ss) q = list_any-append (λ t. within t q) (spans_in p s) (spans_of p ss) ∙ (λ i. has_span_of s.id (spans p s.list) q i || has_spans_of p ss q i)

-- ---- sources among others

pub got_all : (test : SourceList → Bool) (ss : List SourceList) (at : ℕ) (s : SourceList) → list_all test ss ≡ true → slice_get ss at ≡ Some s → test s ≡ true
got_all test [] zero s all e = absurd cc
got_all test [] (suc n) s all e = absurd cc
got_all test (t ∷ ts) zero s all e = ap test (same_one t s e) ∙ (and_parts (test t) (list_all test ts) all).0
  where
    same_one : (t s : SourceList) → Some t ≡ Some s → s ≡ t
    same_one t s e = cc
got_all test (t ∷ ts) (suc n) s all e = got_all test ts n s (and_parts (test t) (list_all test ts) all).1 e

pub knows_none : (p : PoolValue) (ss : List SourceList) (q : Gtid) → are_others q.source ss ≡ true → knows p ss q ≡ false
knows_none p ss q others = any_none (λ s. (q.source == s.id) && has_number (spans p s.list) q.number) (λ s. not (q.source == s.id)) ss (λ s o. fails (q.source == s.id) (has_number (spans p s.list) q.number) o) others
  where
    fails : (a b : Bool) → not a ≡ true → (a && b) ≡ false
    fails true b o = absurd cc
    fails false b o = refl

pub knows_at : (p : PoolValue) (ss : List SourceList) (at : ℕ) (s : SourceList) (q : Gtid) → are_ascending ss ≡ true → slice_get ss at ≡ Some s → q.source ≡ s.id → knows p ss q ≡ has_number (spans p s.list) q.number
knows_at p [] zero s q r e same = absurd cc
knows_at p [] (suc n) s q r e same = absurd cc
knows_at p (t ∷ ts) zero s q r e same =
    let w = and_parts (list_all (λ u. nat_lt t.id u.id) ts) (are_ascending ts) r in
    let is : t ≡ s = cc in
    let hit : (q.source == t.id) ≡ true = (let k : q.source ≡ t.id = same ∙ sym (ap (λ (u : SourceList). u.id) is) in grind (arith, nat_tests)) in
    (λ i. (hit i && has_number (spans p t.list) q.number) || knows_none p ts q (all_weaker (λ u. nat_lt t.id u.id) (λ u. not (q.source == u.id)) ts (λ u lt. differs u lt is) w.0) i)
    ∙ only (has_number (spans p t.list) q.number)
    ∙ ap (λ (u : SourceList). has_number (spans p u.list) q.number) is
  where
    only : (b : Bool) → (b || false) ≡ b
    only true = refl
    only false = refl

    differs : (u : SourceList) → nat_lt t.id u.id ≡ true → t ≡ s → not (q.source == u.id) ≡ true
    differs u lt is = let k : q.source ≡ t.id = same ∙ sym (ap (λ (u : SourceList). u.id) is) in grind (arith, nat_tests)
knows_at p (t ∷ ts) (suc n) s q r e same =
    let w = and_parts (list_all (λ u. nat_lt t.id u.id) ts) (are_ascending ts) r in
    let lt = got_all (λ u. nat_lt t.id u.id) ts n s w.0 e in
    let miss : (q.source == t.id) ≡ false = grind (arith, nat_tests) in
    ap (λ b. (b && has_number (spans p t.list) q.number) || knows p ts q) miss ∙ knows_at p ts n s q w.1 e same

-- a source that is not at its place is not there
pub others_at : (ss : List SourceList) (id at : ℕ) → are_ascending ss ≡ true → IsSourcePlace ss id at → ((s : SourceList) → slice_get ss at ≡ Some s → s.id ≢ id) → are_others id ss ≡ true
others_at [] id at r place differs = refl
others_at (t ∷ ts) id zero r place differs =
    let w = and_parts (list_all (λ u. nat_lt t.id u.id) ts) (are_ascending ts) r in
    let here = (and_parts (not (nat_lt t.id id)) (list_all (λ s. not (nat_lt s.id id)) ts) place.behind).0 in
    let apart : t.id ≢ id = differs t refl in
    and_from (not (id == t.id)) (are_others id ts) (other t here apart) (all_weaker (λ u. nat_lt t.id u.id) (λ u. not (id == u.id)) ts (λ u lt. later u lt here) w.0)
  where
    other : (t : SourceList) → not (nat_lt t.id id) ≡ true → t.id ≢ id → not (id == t.id) ≡ true
    other t here apart = grind (arith, nat_tests)

    later : (u : SourceList) → nat_lt t.id u.id ≡ true → not (nat_lt t.id id) ≡ true → not (id == u.id) ≡ true
    later u lt here = grind (arith, nat_tests)
others_at (t ∷ ts) id (suc n) r place differs =
    let w = and_parts (list_all (λ u. nat_lt t.id u.id) ts) (are_ascending ts) r in
    let b = and_parts (nat_lt t.id id) (list_all (λ s. nat_lt s.id id) (take n ts)) place.before in
    let bound = place.bound in
    let less = b.0 in
    and_from (not (id == t.id)) (are_others id ts) (other t less) (others_at ts id n w.1 (record { bound = omega (arith, bound); before = b.1; behind = place.behind }) differs)
  where
    other : (t : SourceList) → nat_lt t.id id ≡ true → not (id == t.id) ≡ true
    other t less = grind (arith, nat_tests)

-- ---- merged spans

pub merged_append : (xs ys : List Span) → is_merged xs ≡ true → is_merged ys ≡ true → list_all (λ x. list_all (is_before x) ys) xs ≡ true → is_merged (xs ++ ys) ≡ true
merged_append [] ys a b c = b
merged_append (x ∷ xs) ys a b c =
    let h = merged_head x xs a in
    let w = and_parts (list_all (is_before x) ys) (list_all (λ x. list_all (is_before x) ys) xs) c in
    merged_cons x (xs ++ ys) (record { filled = h.filled; after = all_joined (is_before x) xs ys h.after w.0; tail = merged_append xs ys h.tail b w.1 })

pub merged_of : (id : ℕ) (is : List Interval) → AreMerged is → is_merged (map (span_of id) is) ≡ true
merged_of id [] h = refl
merged_of id (i ∷ is) h = merged_cons (span_of id i) (map (span_of id) is) (record { filled = h.0; after = after is h.1; tail = merged_of id is h.2 })
  where
    before : (j : Interval) → IsBefore i j → is_before (span_of id i) (span_of id j) ≡ true
    before j b = let lt : i.hi + 1 < j.lo = b in grind (arith, nat_tests)

    after : (js : List Interval) → AllByRecursion (IsBefore i) js → list_all (is_before (span_of id i)) (map (span_of id) js) ≡ true
    after [] a = refl
    after (j ∷ js) a = and_from (is_before (span_of id i) (span_of id j)) (list_all (is_before (span_of id i)) (map (span_of id) js)) (before j a.0) (after js a.1)

-- each span has the source of one of the sources
pub all_of : (test : ℕ → Bool) (p : PoolValue) (ss : List SourceList) → list_all (λ s. test s.id) ss ≡ true → list_all (λ (t : Span). test t.source) (spans_of p ss) ≡ true
all_of test p [] all = refl
all_of test p (s ∷ ss) all =
    let w = and_parts (test s.id) (list_all (λ s. test s.id) ss) all in
    all_joined (λ t. test t.source) (spans_in p s) (spans_of p ss) (each (spans p s.list) w.0) (all_of test p ss w.1)
  where
    each : (is : List Interval) → test s.id ≡ true → list_all (λ (t : Span). test t.source) (map (span_of s.id) is) ≡ true
    each [] h = refl
    each (i ∷ is) h = and_from (test s.id) (list_all (λ (t : Span). test t.source) (map (span_of s.id) is)) h (each is h)

pub merged_flat : (p : PoolValue) (ss : List SourceList) → are_ascending ss ≡ true → ((l : ℕ) → AreMerged (spans p l)) → is_merged (spans_of p ss) ≡ true
merged_flat p [] r m = refl
merged_flat p (s ∷ ss) r m =
    let w = and_parts (list_all (λ t. nat_lt s.id t.id) ss) (are_ascending ss) r in
    merged_append (spans_in p s) (spans_of p ss) (merged_of s.id (spans p s.list) (m s.list)) (merged_flat p ss w.1 m) (before (spans p s.list) (all_of (λ id. nat_lt s.id id) p ss w.0))
  where
    less : (i : Interval) (t : Span) → nat_lt s.id t.source ≡ true → is_before (span_of s.id i) t ≡ true
    less i t lt = grind (arith, nat_tests)

    before : (is : List Interval) → list_all (λ (t : Span). nat_lt s.id t.source) (spans_of p ss) ≡ true → list_all (λ x. list_all (is_before x) (spans_of p ss)) (map (span_of s.id) is) ≡ true
    before [] a = refl
    before (i ∷ is) a =
        and_from (list_all (is_before (span_of s.id i)) (spans_of p ss)) (list_all (λ x. list_all (is_before x) (spans_of p ss)) (map (span_of s.id) is))
        (all_weaker (λ (t : Span). nat_lt s.id t.source) (is_before (span_of s.id i)) (spans_of p ss) (λ t lt. less i t lt) a) (before is a)

-- ---- lengths

length_spans_in : (p : PoolValue) (s : SourceList) → length (spans_in p s) ≡ length (spans p s.list)
length_spans_in p s = each (spans p s.list)
  where
    each : (is : List Interval) → length (map (span_of s.id) is) ≡ length is
    each [] = refl
    each (i ∷ is) = ap suc (each is)

pub flat_length : (p : PoolValue) (ss : List SourceList) → length (spans_of p ss) ≡ intervals_of p (lists_of ss)
flat_length p [] = refl
flat_length p (s ∷ ss) = length-append (spans_in p s) (spans_of p ss) ∙ (λ i. length_spans_in p s i + flat_length p ss i)

-- ---- lists that are as they were

pub same_at : (p q : PoolValue) (l : ℕ) → slot_at q l ≡ slot_at p l → spans q l ≡ spans p l
same_at p q l e = ap (λ slot. map (λ (h : Held). h.numbers) (unwrap_or slot [])) e

pub same_flat : (p q : PoolValue) (l : ℕ) (ss : List SourceList) → KeepsBut p q l → list_all (λ t. not (t.list == l)) ss ≡ true → spans_of q ss ≡ spans_of p ss
same_flat p q l [] keeps all = refl
same_flat p q l (s ∷ ss) keeps all =
    let w = and_parts (not (s.list == l)) (list_all (λ t. not (t.list == l)) ss) all in
    (λ i. map (span_of s.id) (same_at p q s.list (keeps s.list (other s w.0)) i) ++ same_flat p q l ss keeps w.1 i)
  where
    other : (s : SourceList) → not (s.list == l) ≡ true → s.list ≢ l
    other s o e = absurd (grind (arith, nat_tests))

pub knows_same : (p q : PoolValue) (l : ℕ) (ss : List SourceList) (g : Gtid) → KeepsBut p q l → list_all (λ t. not (t.list == l)) ss ≡ true → knows q ss g ≡ knows p ss g
knows_same p q l ss g keeps all = sym (has_spans_of q ss g) ∙ ap (λ xs. has xs g) (same_flat p q l ss keeps all) ∙ has_spans_of p ss g

-- what another source has stays
pub knows_other : (p q : PoolValue) (ss : List SourceList) (at : ℕ) (s : SourceList) (g : Gtid) → have_own ss ≡ true → slice_get ss at ≡ Some s → KeepsBut p q s.list → g.source ≢ s.id → knows q ss g ≡ knows p ss g
knows_other p q [] zero s g own e keeps ne = absurd cc
knows_other p q [] (suc n) s g own e keeps ne = absurd cc
knows_other p q (t ∷ ts) zero s g own e keeps ne =
    let is : t ≡ s = cc in
    let w = and_parts (list_all (λ u. not (u.list == t.list)) ts) (have_own ts) own in
    let others = subst (λ (u : SourceList). list_all (λ v. not (v.list == u.list)) ts ≡ true) is w.0 in
    let miss : (g.source == t.id) ≡ false = (let i = ap (λ (u : SourceList). u.id) is in grind (arith, nat_tests)) in
    (λ i. (miss i && has_number (spans q t.list) g.number) || knows_same p q s.list ts g keeps others i) ∙ sym (ap (λ b. (b && has_number (spans p t.list) g.number) || knows p ts g) miss)
knows_other p q (t ∷ ts) (suc n) s g own e keeps ne =
    let w = and_parts (list_all (λ u. not (u.list == t.list)) ts) (have_own ts) own in
    let apart : t.list ≢ s.list = differs t (got_all (λ u. not (u.list == t.list)) ts n s w.0 e) in
    (λ i. ((g.source == t.id) && has_number (same_at p q t.list (keeps t.list apart) i) g.number) || knows_other p q ts n s g w.1 e keeps ne i)
  where
    differs : (t : SourceList) → not (s.list == t.list) ≡ true → t.list ≢ s.list
    differs t o k = absurd (grind (arith, nat_tests))

-- the source at a place in the order
pub listed_get : (sources : List SourceList) (is : List ℕ) (n d : ℕ) → n < length is → slice_get (sources_at sources is) n ≡ Some (source_at sources (get_or is n d))
listed_get sources [] n d lt = absurd (omega (arith, lt))
listed_get sources (i ∷ is) zero d lt = refl
listed_get sources (i ∷ is) (suc n) d lt = listed_get sources is n d (omega (arith, lt))

pub listed_past : (sources : List SourceList) (is : List ℕ) (n : ℕ) → length is ≤ n → slice_get (sources_at sources is) n ≡ None
listed_past sources [] zero le = refl
listed_past sources [] (suc n) le = refl
listed_past sources (i ∷ is) zero le = absurd (omega (arith, le))
listed_past sources (i ∷ is) (suc n) le = listed_past sources is n (omega (arith, le))

pub place_within : (sources : List SourceList) (is : List ℕ) (n d : ℕ) → are_places sources is ≡ true → n < length is → get_or is n d < length sources
place_within sources [] n d all lt = absurd (omega (arith, lt))
place_within sources (i ∷ is) zero d all lt = within_one (and_parts (nat_lt i (length sources)) (are_places sources is) all).0
  where
    within_one : nat_lt i (length sources) ≡ true → i < length sources
    within_one e = grind (arith, nat_tests)
place_within sources (i ∷ is) (suc n) d all lt = place_within sources is n d (and_parts (nat_lt i (length sources)) (are_places sources is) all).1 (omega (arith, lt))
