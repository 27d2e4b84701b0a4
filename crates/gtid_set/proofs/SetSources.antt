-- The sources of a set, and the set of a merged list.
use Rattle.std.proofs.Common.{◌≡◌, ◌≤◌, ◌<◌, ◌+◌, ℕ, Bool, true, false, not, cond, ◌&&◌, ◌||◌, nat_le, List, [], ◌∷◌, ◌++◌, map, refl, sym, ap, ◌∙◌, arith}
use Rattle.std.specs.Prelude.{◌==◌, MatchBool, IsTrue, ◌↔◌}
use Rattle.std.specs.List.{list_all, list_any}
use Rattle.std.specs.FinSet as set
use Rattle.std.specs.Ordering.{nat_cmp, eq_by_cmp}
use Rattle.std.specs.declared.cmp.Ordering.TheVariants.{Equal}
use Rattle.std.specs.Cmp.{nat_cmp_total, unsigned_tied}
use Rattle.std.proofs.lemmas.Bool.Decides.{nat_tests}
use Rattle.std.proofs.lemmas.List.Folds.{list_any-append}
use Rattle.gtid_text.specs.declared.Gtid.{Gtid}
use Rattle.gtid_text.specs.declared.Span.{Span}
use Rattle.gtid_text.specs.Gtids.{gtid_cmp}
use Rattle.gtid_set.specs.Sets.{Gtids, gtid, interval, covers, only, without, kept_sources, sources_of, source_count, most_sources}
use Rattle.gtid_set.specs.Spans.{set_of, has, is_merged}
use Rattle.gtid_set.specs.Sweep.{IsListOf, IsWithin, IsNotWithin, AreApart, HaveCommon, KnowsSource, is_kept, is_from, sources_in, within}
use Rattle.gtid_set.proofs.SetLemmas.{same_members, gtid_tied, contains-set_of, contains-interval, set_of-append, AreApart as AreDisjoint}
use Rattle.gtid_set.proofs.SpanLemmas.{merged_filled, all_joined, merged_head, has_later}
use Rattle.gtid_set.proofs.SourceLemmas.{same_numbers, contains-sources_in, len_besides}
use Rattle.std.proofs.lemmas.Bool.{and_parts, or_left, or_right}
use Rattle.lemmas.proofs.SameGtid.{gtid_total, gtid_exact}
use Rattle.lemmas.proofs.Tests.{same_bool}

ors : (a b : Bool) → (a ≡ true → b ≡ true) → (c d : Bool) → (c ≡ true → d ≡ true) → (a || c) ≡ true → (b || d) ≡ true
ors true b f c d g h = ap (λ x. x || d) (f refl)
ors false true f c d g h = refl
ors false false f c d g h = g h

or_else : (a b : Bool) → (a || b) ≡ true → a ≡ false → b ≡ true
or_else true b h k = absurd cc
or_else false b h k = h

or_first : (a b : Bool) → b ≡ false → (a || b) ≡ true → a ≡ true
or_first true b h k = refl
or_first false b h k = absurd cc

any_weaker : {X : Type 0} (p q : X → Bool) (xs : List X) → ((x : X) → p x ≡ true → q x ≡ true) → list_any p xs ≡ true → list_any q xs ≡ true
any_weaker p q [] h a = a
any_weaker p q (x ∷ xs) h a = ors (p x) (q x) (h x) (list_any p xs) (list_any q xs) (any_weaker p q xs h) a

-- a GTID among others has its source among theirs
source_among : (g : Gtid) (gs : List Gtid) → list_any (eq_by_cmp gtid_cmp g) gs ≡ true → list_any (eq_by_cmp nat_cmp g.source) (map (λ g. g.source) gs) ≡ true
source_among g [] e = e
source_among g (x ∷ gs) e =
    ors (eq_by_cmp gtid_cmp g x) (eq_by_cmp nat_cmp g.source x.source) (λ e. unsigned_tied g.source x.source ∙ (and_parts (g.source == x.source) (g.number == x.number) (sym (gtid_tied g x) ∙ e)).0)
    (list_any (eq_by_cmp gtid_cmp g) gs) (list_any (eq_by_cmp nat_cmp g.source) (map (λ g. g.source) gs)) (source_among g gs) e

-- a GTID of a set has a source of it
pub source_known : (s : Gtids) (g : Gtid) → set.contains s g ≡ true → set.contains (sources_of s) g.source ≡ true
unfolding sources_of
source_known s g h = set.contains-from_list nat_cmp_total (map (λ g. g.source) (set.items s)) g.source ∙ source_among g (set.items s) (sym (set.contains-items s g) ∙ h)

-- a source among those of GTIDs has a number among them
abbrev NumberIn : ℕ → List Gtid → Type 0
NumberIn source gs = (n : ℕ) × (list_any (eq_by_cmp gtid_cmp (gtid source n)) gs ≡ true)

number_first : (source : ℕ) (g : Gtid) (gs : List Gtid) → (list_any (eq_by_cmp nat_cmp source) (map (λ g. g.source) gs) ≡ true → NumberIn source gs)
    → list_any (eq_by_cmp nat_cmp source) (map (λ g. g.source) (g ∷ gs)) ≡ true → (b : Bool) → eq_by_cmp nat_cmp source g.source ≡ b → NumberIn source (g ∷ gs)
number_first source g gs later e true k =
    (g.number, ap (λ b. b || list_any (eq_by_cmp gtid_cmp (gtid source g.number)) gs) (gtid_tied (gtid source g.number) g ∙ here (sym (unsigned_tied source g.source) ∙ k)))
  where
    here : (source == g.source) ≡ true → ((source == g.source) && (g.number == g.number)) ≡ true
    here k = grind (arith, nat_tests)
number_first source g gs later e false k =
    let r = later (or_else (eq_by_cmp nat_cmp source g.source) (list_any (eq_by_cmp nat_cmp source) (map (λ g. g.source) gs)) e k) in
    (r.0, or_right (eq_by_cmp gtid_cmp (gtid source r.0) g) (list_any (eq_by_cmp gtid_cmp (gtid source r.0)) gs) r.1)

number_in : (source : ℕ) (gs : List Gtid) → list_any (eq_by_cmp nat_cmp source) (map (λ g. g.source) gs) ≡ true → NumberIn source gs
number_in source [] e = absurd cc
number_in source (g ∷ gs) e = number_first source g gs (number_in source gs) e (eq_by_cmp nat_cmp source g.source) refl

-- each source of a set has a number there
pub record HasNumber (s : Gtids) (source : ℕ) : Type 0 where
  pub number : ℕ
  pub is : set.contains s (gtid source number) ≡ true

pub number_of_source : (s : Gtids) (source : ℕ) → set.contains (sources_of s) source ≡ true → HasNumber s source
unfolding sources_of
number_of_source s source h =
    let r = number_in source (set.items s) (sym (set.contains-from_list nat_cmp_total (map (λ g. g.source) (set.items s)) source) ∙ h) in
    record { number = r.0; is = set.contains-items s (gtid source r.0) ∙ r.1 }

-- the sources of a set that gained some numbers of a source
pub sources_gained : (s t : Gtids) (source n : ℕ) → ((q : Gtid) → set.contains s q ≡ true → set.contains t q ≡ true) → set.contains t (gtid source n) ≡ true
    → ((q : Gtid) → set.contains t q ≡ true → (q.source == source) ≡ false → set.contains s q ≡ true) → sources_of t ≡ set.insert (sources_of s) source
sources_gained s t source n more some none = same_numbers _ _ (λ q. same_bool (set.contains (sources_of t) q) (set.contains (set.insert (sources_of s) source) q) (there q) (back q))
  where
    there : (q : ℕ) → set.contains (sources_of t) q ≡ true → set.contains (set.insert (sources_of s) source) q ≡ true
    there q h = set.contains-insert nat_cmp_total (sources_of s) source q ∙ cases (eq_by_cmp nat_cmp q source) refl
      where
        cases : (b : Bool) → eq_by_cmp nat_cmp q source ≡ b → (eq_by_cmp nat_cmp q source || set.contains (sources_of s) q) ≡ true
        cases true e = ap (λ b. b || set.contains (sources_of s) q) e
        cases false e =
            let r = number_of_source t q h in
            or_right (eq_by_cmp nat_cmp q source) (set.contains (sources_of s) q) (source_known s (gtid q r.number) (none (gtid q r.number) r.is (sym (unsigned_tied q source) ∙ e)))

    back : (q : ℕ) → set.contains (set.insert (sources_of s) source) q ≡ true → set.contains (sources_of t) q ≡ true
    back q h = cases (eq_by_cmp nat_cmp q source) refl
      where
        equal : (q : ℕ) → (q == source) ≡ true → source ≡ q
        equal q h = grind (arith, nat_tests)

        cases : (b : Bool) → eq_by_cmp nat_cmp q source ≡ b → set.contains (sources_of t) q ≡ true
        cases true e = ap (set.contains (sources_of t)) (sym (equal q (sym (unsigned_tied q source) ∙ e))) ∙ source_known t (gtid source n) some
        cases false e =
            let r = number_of_source s q (or_else (eq_by_cmp nat_cmp q source) (set.contains (sources_of s) q) (sym (set.contains-insert nat_cmp_total (sources_of s) source q) ∙ h) e) in
            source_known t (gtid q r.number) (more (gtid q r.number) r.is)

-- a set with an interval more
pub sources_with_interval : (s : Gtids) (source lo hi : ℕ) → lo ≤ hi → sources_of (set.union s (interval source lo hi)) ≡ set.insert (sources_of s) source
sources_with_interval s source lo hi le = sources_gained s (set.union s (interval source lo hi)) source lo more some none
  where
    there : (q : Gtid) → set.contains (set.union s (interval source lo hi)) q ≡ (set.contains s q || covers source lo hi q)
    there q = set.contains-union gtid_total s (interval source lo hi) q ∙ ap (λ b. set.contains s q || b) (contains-interval source lo hi q)

    start : lo ≤ hi → covers source lo hi (gtid source lo) ≡ true
    start le = grind (arith, nat_tests)

    outside : (q : Gtid) → (q.source == source) ≡ false → covers source lo hi q ≡ false
    outside q e = ap (λ b. b && (nat_le lo q.number && nat_le q.number hi)) e

    more : (q : Gtid) → set.contains s q ≡ true → set.contains (set.union s (interval source lo hi)) q ≡ true
    more q h = there q ∙ or_left (set.contains s q) (covers source lo hi q) h

    some : set.contains (set.union s (interval source lo hi)) (gtid source lo) ≡ true
    some = there (gtid source lo) ∙ or_right (set.contains s (gtid source lo)) (covers source lo hi (gtid source lo)) (start le)

    none : (q : Gtid) → set.contains (set.union s (interval source lo hi)) q ≡ true → (q.source == source) ≡ false → set.contains s q ≡ true
    none q h e = or_first (set.contains s q) (covers source lo hi q) (outside q e) (sym (there q) ∙ h)

-- whether a list's set has a source
pub knows_source : (b : Bool) (ss : List Span) (source : ℕ) → KnowsSource b ss source → set.contains (sources_of (set_of ss)) source ≡ b
knows_source true ss source k = source_known (set_of ss) (gtid source k.0) (contains-set_of ss (gtid source k.0) ∙ k.1)
knows_source false ss source k = cases (set.contains (sources_of (set_of ss)) source) refl
  where
    cases : (b : Bool) → set.contains (sources_of (set_of ss)) source ≡ b → set.contains (sources_of (set_of ss)) source ≡ false
    cases false e = e
    cases true e =
        let r = number_of_source (set_of ss) source e in
        let none = k r.number in
        let some = sym (contains-set_of ss (gtid source r.number)) ∙ r.is in
        absurd cc

-- a source more or less
pub len_known : (ss : List Span) (source sources : ℕ) → sources ≡ source_count (set_of ss) → KnowsSource true ss source → sources ≡ set.len (set.insert (sources_of (set_of ss)) source)
len_known ss source sources e k = e ∙ sym (set.len-insert nat_cmp_total (sources_of (set_of ss)) source ∙ ap (λ b. cond b (source_count (set_of ss)) (source_count (set_of ss) + 1)) (knows_source true ss source k))

pub len_unknown : (ss : List Span) (source sources : ℕ) → sources ≡ source_count (set_of ss) → KnowsSource false ss source → sources + 1 ≡ set.len (set.insert (sources_of (set_of ss)) source)
len_unknown ss source sources e k = ap (λ n. n + 1) e ∙ sym (set.len-insert nat_cmp_total (sources_of (set_of ss)) source ∙ ap (λ b. cond b (source_count (set_of ss)) (source_count (set_of ss) + 1)) (knows_source false ss source k))

-- the set of a list of the GTIDs that pass a test
pub set_of_list : (test : Gtid → Bool) (ss : List Span) (s : Gtids) → IsListOf test ss → ((q : Gtid) → set.contains s q ≡ test q) → set_of ss ≡ s
set_of_list test ss s l h = same_members (set_of ss) s (λ q. contains-set_of ss q ∙ l.has q ∙ sym (h q))

-- a source among those of filled spans has a number among theirs
abbrev SpanNumber : ℕ → List Span → Type 0
SpanNumber source ss = (n : ℕ) × (has ss (gtid source n) ≡ true)

span_first : (q : ℕ) (t : Span) (ts : List Span) → nat_le t.lo t.hi ≡ true → (list_any (λ s. q == s.source) ts ≡ true → SpanNumber q ts) → list_any (λ s. q == s.source) (t ∷ ts) ≡ true
    → (b : Bool) → (q == t.source) ≡ b → SpanNumber q (t ∷ ts)
span_first q t ts f later e true k = (t.lo, ap (λ b. b || has ts (gtid q t.lo)) (start f k))
  where
    start : nat_le t.lo t.hi ≡ true → (q == t.source) ≡ true → within t (gtid q t.lo) ≡ true
    start f k = grind (arith, nat_tests)
span_first q t ts f later e false k =
    let r = later (or_else (q == t.source) (list_any (λ s. q == s.source) ts) e k) in
    (r.0, or_right (within t (gtid q r.0)) (has ts (gtid q r.0)) r.1)

span_number : (q : ℕ) (ts : List Span) → list_all (λ s. nat_le s.lo s.hi) ts ≡ true → list_any (λ s. q == s.source) ts ≡ true → SpanNumber q ts
span_number q [] f e = absurd cc
span_number q (t ∷ ts) f e =
    let w = and_parts (nat_le t.lo t.hi) (list_all (λ s. nat_le s.lo s.hi) ts) f in
    span_first q t ts w.0 (span_number q ts w.1) e (q == t.source) refl

-- the sources of a merged list's set
pub sources_of-set_of : (ss : List Span) → list_all (λ s. nat_le s.lo s.hi) ss ≡ true → sources_of (set_of ss) ≡ sources_in ss
sources_of-set_of ss filled = same_numbers _ _ (λ q. same_bool (set.contains (sources_of (set_of ss)) q) (set.contains (sources_in ss) q) (there q) (back q))
  where
    same_source : (q n : ℕ) (s : Span) → within s (gtid q n) ≡ true → (q == s.source) ≡ true
    same_source q n s w = (and_parts (q == s.source) (nat_le s.lo n && nat_le n s.hi) w).0

    there : (q : ℕ) → set.contains (sources_of (set_of ss)) q ≡ true → set.contains (sources_in ss) q ≡ true
    there q h =
        let r = number_of_source (set_of ss) q h in
        contains-sources_in ss q ∙ any_weaker (λ s. within s (gtid q r.number)) (λ s. q == s.source) ss (λ s w. same_source q r.number s w) (sym (contains-set_of ss (gtid q r.number)) ∙ r.is)

    back : (q : ℕ) → set.contains (sources_in ss) q ≡ true → set.contains (sources_of (set_of ss)) q ≡ true
    back q h =
        let r = span_number q ss filled (sym (contains-sources_in ss q) ∙ h) in
        source_known (set_of ss) (gtid q r.0) (contains-set_of ss (gtid q r.0) ∙ r.1)

pub no_sources : source_count set.empty ≡ 0
no_sources = ap set.len (sources_of-set_of [] refl) ∙ set.len-empty nat_cmp

-- an interval without a number adds nothing, one of one number a GTID
pub union_none : (s : Gtids) (source lo hi : ℕ) → hi < lo → s ≡ set.union s (interval source lo hi)
union_none s source lo hi lt = same_members s (set.union s (interval source lo hi)) (λ q. sym (
    set.contains-union gtid_total s (interval source lo hi) q ∙ ap (λ b. set.contains s q || b) (contains-interval source lo hi q ∙ outside q lt) ∙ or-false (set.contains s q)))
  where
    outside : (q : Gtid) → hi < lo → covers source lo hi q ≡ false
    outside q lt = grind (arith, nat_tests)

    or-false : (a : Bool) → (a || false) ≡ a
    or-false true = refl
    or-false false = refl

pub union_one : (s : Gtids) (g : Gtid) → set.union s (interval g.source g.number g.number) ≡ set.insert s g
union_one s g = same_members _ _ (λ q.
    set.contains-union gtid_total s (interval g.source g.number g.number) q
    ∙ ap (λ b. set.contains s q || b) (contains-interval g.source g.number g.number q ∙ single q ∙ sym (gtid_tied q g))
    ∙ or_comm (set.contains s q) (eq_by_cmp gtid_cmp q g)
    ∙ sym (set.contains-insert gtid_total s g q))
  where
    single : (q : Gtid) → covers g.source g.number g.number q ≡ ((q.source == g.source) && (q.number == g.number))
    single q = grind (arith, nat_tests)

    or_comm : (a b : Bool) → (a || b) ≡ (b || a)
    or_comm true true = refl
    or_comm true false = refl
    or_comm false true = refl
    or_comm false false = refl

-- what a kept list has, its set contains
pub contains_held : (items spans : List Span) (s : Gtids) (g : Gtid) (b : Bool) → spans ≡ items → set_of items ≡ s → b ≡ has spans g → b ≡ set.contains s g
contains_held items spans s g b e view h = h ∙ ap (λ ss. has ss g) e ∙ sym (contains-set_of items g) ∙ ap (λ s. set.contains s g) view

-- how many sources a kept set has with one more interval
pub count_with : (items spans : List Span) (s : Gtids) (source lo hi : ℕ) → spans ≡ items → set_of items ≡ s → lo ≤ hi
    → set.len (set.insert (sources_of (set_of spans)) source) ≡ source_count (set.union s (interval source lo hi))
count_with items spans s source lo hi e view le =
    (λ i. set.len (set.insert (sources_of (set_of (e i))) source)) ∙ ap (λ s. set.len (set.insert (sources_of s) source)) view ∙ sym (ap set.len (sources_with_interval s source lo hi le))

-- the set of a list with one more span
pub added_set : (items new : List Span) (s : Gtids) (t : Span) → set_of items ≡ s → IsListOf (λ q. within t q || has items q) new → set_of new ≡ set.union s (interval t.source t.lo t.hi)
added_set items new s t view l = set_of_list (λ q. within t q || has items q) new (set.union s (interval t.source t.lo t.hi)) l (λ q.
    set.contains-union gtid_total s (interval t.source t.lo t.hi) q
    ∙ (λ i. ap (λ s. set.contains s q) (sym view) i || contains-interval t.source t.lo t.hi q i)
    ∙ ap (λ b. b || within t q) (contains-set_of items q)
    ∙ or_comm (has items q) (within t q))
  where
    or_comm : (a b : Bool) → (a || b) ≡ (b || a)
    or_comm true true = refl
    or_comm true false = refl
    or_comm false true = refl
    or_comm false false = refl

-- how many numbers a list has, if another set has them too
one_less : (t : set.FinSet nat_cmp) (k : ℕ) → set.contains t k ≡ true → set.len t ≡ set.len (set.remove t k) + 1
one_less t k h = sym (set.len-insert nat_cmp_total t k ∙ ap (λ b. cond b (set.len t) (set.len t + 1)) h) ∙ len_besides t k

pub len_within : (ks : List ℕ) (t : set.FinSet nat_cmp) → ((q : ℕ) → set.contains (set.from_list {R = nat_cmp} ks) q ≡ true → set.contains t q ≡ true) → set.len (set.from_list {R = nat_cmp} ks) ≤ set.len t
len_within [] t h = let none = set.len-empty nat_cmp in omega (arith, none)
len_within (k ∷ ks) t h = cases (len_within ks) (set.contains (set.from_list {R = nat_cmp} ks) k) refl
  where
    itself : eq_by_cmp nat_cmp k k ≡ true
    itself = unsigned_tied k k ∙ same k
      where
        same : (n : ℕ) → (n == n) ≡ true
        same n = grind (arith, nat_tests)

    within_all : (q : ℕ) → set.contains (set.from_list {R = nat_cmp} ks) q ≡ true → set.contains (set.insert (set.from_list {R = nat_cmp} ks) k) q ≡ true
    within_all q e = set.contains-insert nat_cmp_total (set.from_list {R = nat_cmp} ks) k q ∙ or_right (eq_by_cmp nat_cmp q k) (set.contains (set.from_list {R = nat_cmp} ks) q) e

    first : set.contains t k ≡ true
    first = h k (set.contains-insert nat_cmp_total (set.from_list {R = nat_cmp} ks) k k ∙ or_left (eq_by_cmp nat_cmp k k) (set.contains (set.from_list {R = nat_cmp} ks) k) itself)

    equal : (q : ℕ) → (q == k) ≡ true → q ≡ k
    equal q e = grind (arith, nat_tests)

    others : set.contains (set.from_list {R = nat_cmp} ks) k ≡ false → (q : ℕ) → set.contains (set.from_list {R = nat_cmp} ks) q ≡ true → set.contains (set.remove t k) q ≡ true
    others none q e = set.contains-remove nat_cmp_total t k q ∙ split (eq_by_cmp nat_cmp q k) refl
      where
        split : (b : Bool) → eq_by_cmp nat_cmp q k ≡ b → (not (eq_by_cmp nat_cmp q k) && set.contains t q) ≡ true
        split true f =
            let there = ap (set.contains (set.from_list {R = nat_cmp} ks)) (sym (equal q (sym (unsigned_tied q k) ∙ f))) ∙ e in
            absurd cc
        split false f = ap (λ b. not b && set.contains t q) f ∙ h q (within_all q e)

    cases : ((t : set.FinSet nat_cmp) → ((q : ℕ) → set.contains (set.from_list {R = nat_cmp} ks) q ≡ true → set.contains t q ≡ true) → set.len (set.from_list {R = nat_cmp} ks) ≤ set.len t)
        → (b : Bool) → set.contains (set.from_list {R = nat_cmp} ks) k ≡ b → set.len (set.insert (set.from_list {R = nat_cmp} ks) k) ≤ set.len t
    cases fewer true e =
        let kept = set.len-insert nat_cmp_total (set.from_list {R = nat_cmp} ks) k ∙ ap (λ b. cond b (set.len (set.from_list {R = nat_cmp} ks)) (set.len (set.from_list {R = nat_cmp} ks) + 1)) e in
        let le = fewer t (λ q i. h q (within_all q i)) in
        omega (arith, kept, le)
    cases fewer false e =
        let more = set.len-insert nat_cmp_total (set.from_list {R = nat_cmp} ks) k ∙ ap (λ b. cond b (set.len (set.from_list {R = nat_cmp} ks)) (set.len (set.from_list {R = nat_cmp} ks) + 1)) e in
        let le = fewer (set.remove t k) (others e) in
        let less = one_less t k first in
        omega (arith, more, le, less)

-- a part of a set has no more sources
pub fewer_sources : (s t : Gtids) → ((q : Gtid) → set.contains s q ≡ true → set.contains t q ≡ true) → source_count s ≤ source_count t
unfolding sources_of
fewer_sources s t h = len_within (map (λ g. g.source) (set.items s)) (sources_of t) (λ q e. known q (number_of_source s q e))
  where
    known : (q : ℕ) → HasNumber s q → set.contains (sources_of t) q ≡ true
    known q r = source_known t (gtid q r.number) (h (gtid q r.number) r.is)

-- what a pass counts
pub counted_both : (xs ys : List Span) → is_merged xs ≡ true → is_merged ys ≡ true → set.len (sources_in (xs ++ ys)) ≡ source_count (set.union (set_of xs) (set_of ys))
counted_both xs ys m n =
    sym (ap set.len (sources_of-set_of (xs ++ ys) (all_joined (λ s. nat_le s.lo s.hi) xs ys (merged_filled xs m) (merged_filled ys n)))) ∙ ap source_count (set_of-append xs ys)

-- two lists have no more sources than each of them together
fewer_in : (xs ys : List Span) → set.len (sources_in (xs ++ ys)) ≤ set.len (sources_in xs) + set.len (sources_in ys)
fewer_in [] ys = omega arith
fewer_in (x ∷ xs) ys = split (set.contains (sources_in xs) x.source) refl (fewer_in xs ys)
  where
    inserted : (zs : List Span) (b : Bool) → set.contains (sources_in zs) x.source ≡ b → set.len (sources_in (x ∷ zs)) ≡ cond b (set.len (sources_in zs)) (set.len (sources_in zs) + 1)
    inserted zs b e = set.len-insert nat_cmp_total (sources_in zs) x.source ∙ ap (λ b. cond b (set.len (sources_in zs)) (set.len (sources_in zs) + 1)) e

    at_most : (zs : List Span) (b : Bool) → set.contains (sources_in zs) x.source ≡ b → set.len (sources_in (x ∷ zs)) ≤ set.len (sources_in zs) + 1
    at_most zs true e = let i = inserted zs true e in omega (arith, i)
    at_most zs false e = let i = inserted zs false e in omega (arith, i)

    split : (b : Bool) → set.contains (sources_in xs) x.source ≡ b → set.len (sources_in (xs ++ ys)) ≤ set.len (sources_in xs) + set.len (sources_in ys)
        → set.len (sources_in (x ∷ (xs ++ ys))) ≤ set.len (sources_in (x ∷ xs)) + set.len (sources_in ys)
    split true e le =
        let there = contains-sources_in (xs ++ ys) x.source ∙ list_any-append (λ s. x.source == s.source) xs ys ∙ or_left (list_any (λ s. x.source == s.source) xs) (list_any (λ s. x.source == s.source) ys) (sym (contains-sources_in xs x.source) ∙ e) in
        let a = inserted (xs ++ ys) true there in
        let b = inserted xs true e in
        omega (arith, a, b, le)
    split false e le =
        let a = at_most (xs ++ ys) (set.contains (sources_in (xs ++ ys)) x.source) refl in
        let b = inserted xs false e in
        omega (arith, a, b, le)

pub fewer_both : (xs ys : List Span) → is_merged xs ≡ true → is_merged ys ≡ true → source_count (set.union (set_of xs) (set_of ys)) ≤ source_count (set_of xs) + source_count (set_of ys)
fewer_both xs ys m n =
    let both = counted_both xs ys m n in
    let left = ap set.len (sources_of-set_of xs (merged_filled xs m)) in
    let right = ap set.len (sources_of-set_of ys (merged_filled ys n)) in
    let le = fewer_in xs ys in
    omega (arith, both, left, right, le)

-- a list of a part of another's GTIDs has no more sources
pub fewer_listed : (test : Gtid → Bool) (xs new : List Span) → IsListOf test new → ((q : Gtid) → test q ≡ true → has xs q ≡ true) → source_count (set_of xs) ≤ most_sources → source_count (set_of new) ≤ most_sources
fewer_listed test xs new l part fits =
    let fewer = fewer_sources (set_of new) (set_of xs) (λ q e. contains-set_of xs q ∙ part q (sym (l.has q) ∙ sym (contains-set_of new q) ∙ e)) in
    omega (arith, fewer, fits)

pub first_of_and : (a b : Bool) → (a && b) ≡ true → a ≡ true
first_of_and a b h = (and_parts a b h).0

-- being a subset, by a test of two lists
pub subset_held : (b : Bool) (xs ys : List Span) → MatchBool b (IsWithin (has xs) (has ys)) (IsNotWithin (has xs) (has ys)) → b ≡ set.is_subset (set_of xs) (set_of ys)
subset_held true xs ys m = sym (set.contains-is_subset gtid_total (set_of xs) (set_of ys) (λ q e. contains-set_of ys q ∙ m q (sym (contains-set_of xs q) ∙ e)))
subset_held false xs ys m = cases (set.is_subset (set_of xs) (set_of ys)) refl
  where
    cases : (b : Bool) → set.is_subset (set_of xs) (set_of ys) ≡ b → false ≡ set.is_subset (set_of xs) (set_of ys)
    cases false e = sym e
    cases true e =
        let there = sym (contains-set_of ys m.0) ∙ set.is_subset-contains gtid_total (set_of xs) (set_of ys) e m.0 (contains-set_of xs m.0 ∙ m.1) in
        let none = m.2 in
        absurd cc

-- having nothing in common, by a test of two lists
pub disjoint_held : (b : Bool) (xs ys : List Span) → MatchBool b (AreApart (has xs) (has ys)) (HaveCommon (has xs) (has ys)) → IsTrue b ↔ (set.intersection (set_of xs) (set_of ys) ≡ set.empty)
disjoint_held true xs ys m = (
  λ _. same_members (set.intersection (set_of xs) (set_of ys)) set.empty (λ q.
      set.contains-intersection gtid_total (set_of xs) (set_of ys) q ∙ (λ i. contains-set_of xs q i && contains-set_of ys q i) ∙ apart (has xs q) (has ys q) (m q) ∙ sym (set.contains-empty gtid_cmp q)),
  λ _. refl,
)
  where
    apart : (a b : Bool) → (a ≡ true → b ≡ false) → (a && b) ≡ false
    apart true b h = h refl
    apart false b h = refl
disjoint_held false xs ys m = (
  λ h. absurd cc,
  λ none.
      let one = set.contains-intersection gtid_total (set_of xs) (set_of ys) m.0 ∙ (λ i. (contains-set_of xs m.0 ∙ m.1) i && (contains-set_of ys m.0 ∙ m.2) i) in
      let empty = ap (λ s. set.contains s m.0) none ∙ set.contains-empty gtid_cmp m.0 in
      absurd cc,
)

-- two lists of one set, and of two
pub differ_held : (xs ys : List Span) → IsNotWithin (has xs) (has ys) → set_of xs ≡ set_of ys → ⊥
differ_held xs ys m e =
    let there = sym (contains-set_of ys m.0) ∙ ap (λ s. set.contains s m.0) (sym e) ∙ contains-set_of xs m.0 ∙ m.1 in
    let none = m.2 in
    absurd cc

pub equal_held : (b : Bool) (xs ys : List Span) → IsWithin (has xs) (has ys) → MatchBool b (IsWithin (has ys) (has xs)) (IsNotWithin (has ys) (has xs)) → IsTrue b ↔ (set_of xs ≡ set_of ys)
equal_held true xs ys w m = (λ _. same_members (set_of xs) (set_of ys) (λ q. contains-set_of xs q ∙ same_bool (has xs q) (has ys q) (w q) (m q) ∙ sym (contains-set_of ys q)), λ _. refl)
equal_held false xs ys w m = (λ h. absurd cc, λ e. absurd (differ_held ys xs m (sym e)))

-- the sets of one source's spans, and of the others
same_source_test : (q x : Gtid) → gtid_cmp q x ≡ Equal → q ≡ x
same_source_test q x e = gtid_exact q x e

only_kept : (a b : Bool) → (a && cond b true (not true)) ≡ (a && b)
only_kept a true = refl
only_kept a false = refl

without_kept : (a b : Bool) → (a && cond b false (not false)) ≡ (a && not b)
without_kept a true = refl
without_kept a false = refl

pub kept_held : (ss new : List Span) (source : ℕ) (wanted : Bool) → IsListOf (λ q. has ss q && is_kept source wanted q.source) new → set_of new ≡ kept_sources (set_of ss) source wanted
unfolding only without
kept_held ss new source true l = set_of_list (λ q. has ss q && is_kept source true q.source) new (only (set_of ss) source) l (λ q.
    set.contains-retain (set_of ss) (λ g. g.source == source) q (λ x e. ap (λ g. g.source == source) (sym (same_source_test q x e)))
    ∙ ap (λ b. b && (q.source == source)) (contains-set_of ss q) ∙ sym (only_kept (has ss q) (q.source == source)))
kept_held ss new source false l = set_of_list (λ q. has ss q && is_kept source false q.source) new (without (set_of ss) source) l (λ q.
    set.contains-retain (set_of ss) (λ g. not (g.source == source)) q (λ x e. ap (λ g. not (g.source == source)) (sym (same_source_test q x e)))
    ∙ ap (λ b. b && not (q.source == source)) (contains-set_of ss q) ∙ sym (without_kept (has ss q) (q.source == source)))

-- a merged list's spans are apart, so their lengths add up
pub apart_merged : (ss : List Span) → is_merged ss ≡ true → AreDisjoint ss
apart_merged [] m = tt
apart_merged (s ∷ ss) m =
    let h = merged_head s ss m in
    (λ n lo hi. contains-set_of ss (gtid s.source n) ∙ has_later s ss (gtid s.source n) h.after (from n hi), apart_merged ss h.tail)
  where
    from : (n : ℕ) → n ≤ s.hi → is_from (gtid s.source n) (gtid s.source (s.hi + 1)) ≡ true
    from n hi = grind (arith, nat_tests)

-- the set of one span, added to another
pub with_one : (s : Gtids) (t : Span) → set.union s (set_of (t ∷ [])) ≡ set.union s (interval t.source t.lo t.hi)
with_one s t = ap (set.union s) (same_members (set.union set.empty (interval t.source t.lo t.hi)) (interval t.source t.lo t.hi) (λ q. set.contains-union gtid_total set.empty (interval t.source t.lo t.hi) q ∙ ap (λ b. b || set.contains (interval t.source t.lo t.hi) q) (set.contains-empty gtid_cmp q)))
