-- A merged list is the list of the longest runs of its set.
use Rattle.std.proofs.Common.{◌≡◌, ◌≤◌, ◌<◌, ◌+◌, ◌-◌, ℕ, zero, suc, Bool, true, false, cond, ◌&&◌, ◌||◌, nat_le, nat_lt, List, [], ◌∷◌, ◌++◌, map, refl, sym, ap, subst, ◌∙◌, arith}
use Rattle.std.specs.Prelude.{◌==◌}
use Rattle.std.specs.List.{list_all, list_any, range_with_len}
use Rattle.std.specs.FinSet as set
use Rattle.std.specs.Ordering.{eq_by_cmp}
use Rattle.std.proofs.lemmas.Bool.Decides.{nat_tests}
use Rattle.std.proofs.lemmas.List.Folds.{list_any-append}
use Rattle.gtid_text.specs.declared.Gtid.{Gtid}
use Rattle.gtid_text.specs.declared.Span.{Span}
use Rattle.gtid_text.specs.Gtids.{gtid_cmp, same_gtid}
use Rattle.gtid_set.specs.Sets.{Gtids, gtid}
use Rattle.gtid_set.specs.Spans.{set_of, has, is_merged, is_before}
use Rattle.gtid_set.specs.Runs.{is_less, place, in_order, run_before, runs_of, runs}
use Rattle.gtid_set.specs.Sweep.{within}
use Rattle.gtid_set.proofs.SetLemmas.{same_members, gtid_tied, contains-set_of, any-numbers}
use Rattle.gtid_set.proofs.SpanLemmas.{all_after, merged_head, merged_cons}
use Rattle.std.proofs.lemmas.Bool.{and_parts, and_from}
use mathlib.Core.Bool.{or_assoc}
use Rattle.lemmas.proofs.Tests.{or_swap}
use Rattle.lemmas.proofs.SameGtid.{same_itself, same_is_equal}
use Rattle.lemmas.proofs.Numbers.{self_le}

-- a GTID less than the first of others
abbrev pub less_first : Gtid → List Gtid → Bool
less_first g [] = true
less_first g (h ∷ hs) = is_less g h

abbrev pub climbs : List Gtid → Bool
climbs [] = true
climbs (g ∷ gs) = less_first g gs && climbs gs

-- a GTID among others
abbrev pub among : Gtid → List Gtid → Bool
among q gs = list_any (same_gtid q) gs

or_twice : (a b c : Bool) → a ≡ b → (b || c) ≡ (a || (b || c))
or_twice true b c e = ap (λ x. x || c) (sym e)
or_twice false b c e = refl

-- what is among the GTIDs with one at its place
placed : (q g h : Gtid) (hs : List Gtid) (a b : Bool) → is_less g h ≡ a → same_gtid g h ≡ b → among q (place g hs) ≡ (same_gtid q g || among q hs)
    → among q (cond a (g ∷ h ∷ hs) (cond b (h ∷ hs) (h ∷ place g hs))) ≡ (same_gtid q g || among q (h ∷ hs))
placed q g h hs true b e f ih = refl
placed q g h hs false true e f ih = or_twice (same_gtid q g) (same_gtid q h) (among q hs) (alike f)
  where
    alike : same_gtid g h ≡ true → same_gtid q g ≡ same_gtid q h
    alike f = grind (arith, nat_tests)
placed q g h hs false false e f ih = ap (λ b. same_gtid q h || b) ih ∙ or_swap (same_gtid q h) (same_gtid q g) (among q hs)

among_place : (q g : Gtid) (hs : List Gtid) → among q (place g hs) ≡ (same_gtid q g || among q hs)
among_place q g [] = refl
among_place q g (h ∷ hs) = placed q g h hs (is_less g h) (same_gtid g h) refl refl (among_place q g hs)

among_order : (q : Gtid) (gs : List Gtid) → among q (in_order gs) ≡ among q gs
among_order q [] = refl
among_order q (g ∷ gs) = among_place q g (in_order gs) ∙ ap (λ b. same_gtid q g || b) (among_order q gs)

less_trans : (g h k : Gtid) → is_less g h ≡ true → is_less h k ≡ true → is_less g k ≡ true
less_trans g h k a b = grind (arith, nat_tests)

-- less than the first, where one is put at its place
first_cases : (h g k : Gtid) (ks : List Gtid) (a b : Bool) → is_less h g ≡ true → is_less h k ≡ true → less_first h (cond a (g ∷ k ∷ ks) (cond b (k ∷ ks) (k ∷ place g ks))) ≡ true
first_cases h g k ks true b e f = e
first_cases h g k ks false true e f = f
first_cases h g k ks false false e f = f

less_place : (h g : Gtid) (hs : List Gtid) → is_less h g ≡ true → less_first h hs ≡ true → less_first h (place g hs) ≡ true
less_place h g [] e f = e
less_place h g (k ∷ ks) e f = first_cases h g k ks (is_less g k) (same_gtid g k) e f

climbs_cases : (g h : Gtid) (hs : List Gtid) (a b : Bool) → is_less g h ≡ a → same_gtid g h ≡ b → climbs (h ∷ hs) ≡ true → climbs (place g hs) ≡ true
    → climbs (cond a (g ∷ h ∷ hs) (cond b (h ∷ hs) (h ∷ place g hs))) ≡ true
climbs_cases g h hs true b e f c d = and_from (is_less g h) (climbs (h ∷ hs)) e c
climbs_cases g h hs false true e f c d = c
climbs_cases g h hs false false e f c d = and_from (less_first h (place g hs)) (climbs (place g hs)) (less_place h g hs (greater e f) (and_parts (less_first h hs) (climbs hs) c).0) d
  where
    greater : is_less g h ≡ false → same_gtid g h ≡ false → is_less h g ≡ true
    greater e f = grind (arith, nat_tests)

climbs_place : (g : Gtid) (hs : List Gtid) → climbs hs ≡ true → climbs (place g hs) ≡ true
climbs_place g [] c = refl
climbs_place g (h ∷ hs) c = climbs_cases g h hs (is_less g h) (same_gtid g h) refl refl c (climbs_place g hs (and_parts (less_first h hs) (climbs hs) c).1)

climbs_order : (gs : List Gtid) → climbs (in_order gs) ≡ true
climbs_order [] = refl
climbs_order (g ∷ gs) = climbs_place g (in_order gs) (climbs_order gs)

-- what is less than the first is not among them
less_none : (g : Gtid) (gs : List Gtid) → less_first g gs ≡ true → climbs gs ≡ true → among g gs ≡ false
less_none g [] e c = refl
less_none g (h ∷ hs) e c =
    let w = and_parts (less_first h hs) (climbs hs) c in
    ap (λ b. b || among g hs) (other e) ∙ less_none g hs (further h hs e w.0) w.1
  where
    other : is_less g h ≡ true → same_gtid g h ≡ false
    other e = grind (arith, nat_tests)

    further : (h : Gtid) (hs : List Gtid) → is_less g h ≡ true → less_first h hs ≡ true → less_first g hs ≡ true
    further h [] e f = refl
    further h (k ∷ ks) e f = less_trans g h k e f

-- a member that is first is no member of a list that begins later
not_later : (x y : Gtid) (xs ys : List Gtid) → is_less x y ≡ true → climbs (y ∷ ys) ≡ true → ((q : Gtid) → among q (x ∷ xs) ≡ among q (y ∷ ys)) → ⊥
not_later x y xs ys e c h =
    let there : among x (x ∷ xs) ≡ true = ap (λ b. b || among x xs) (same_itself x) in
    let none = h x ∙ less_none x (y ∷ ys) e c in
    absurd cc

-- the rest of two lists that begin alike
same_rest : (x : Gtid) (xs ys : List Gtid) → climbs (x ∷ xs) ≡ true → climbs (x ∷ ys) ≡ true → ((q : Gtid) → among q (x ∷ xs) ≡ among q (x ∷ ys)) → (q : Gtid) → among q xs ≡ among q ys
same_rest x xs ys c d h q = cases (same_gtid q x) refl
  where
    cases : (b : Bool) → same_gtid q x ≡ b → among q xs ≡ among q ys
    cases true e =
        let p = and_parts (less_first x xs) (climbs xs) c in
        let r = and_parts (less_first x ys) (climbs ys) d in
        ap (λ g. among g xs) (same_is_equal q x e) ∙ less_none x xs p.0 p.1 ∙ sym (ap (λ g. among g ys) (same_is_equal q x e) ∙ less_none x ys r.0 r.1)
    cases false e = sym (ap (λ b. b || among q xs) e) ∙ h q ∙ ap (λ b. b || among q ys) e

-- ascending lists of the same GTIDs are one
same_firsts : (x y : Gtid) (xs ys : List Gtid) (a b : Bool) → is_less x y ≡ a → same_gtid x y ≡ b → climbs (x ∷ xs) ≡ true → climbs (y ∷ ys) ≡ true → ((q : Gtid) → among q (x ∷ xs) ≡ among q (y ∷ ys)) → x ≡ y
same_firsts x y xs ys true b e f c d h = absurd (not_later x y xs ys e d h)
same_firsts x y xs ys false true e f c d h = same_is_equal x y f
same_firsts x y xs ys false false e f c d h = absurd (not_later y x ys xs (greater e f) c (λ q. sym (h q)))
  where
    greater : is_less x y ≡ false → same_gtid x y ≡ false → is_less y x ≡ true
    greater e f = grind (arith, nat_tests)

pub same_climb : (xs ys : List Gtid) → climbs xs ≡ true → climbs ys ≡ true → ((q : Gtid) → among q xs ≡ among q ys) → xs ≡ ys
same_climb [] [] c d h = refl
same_climb [] (y ∷ ys) c d h =
    let there : among y (y ∷ ys) ≡ true = ap (λ b. b || among y ys) (same_itself y) in
    let none = h y in
    absurd cc
same_climb (x ∷ xs) [] c d h =
    let there : among x (x ∷ xs) ≡ true = ap (λ b. b || among x xs) (same_itself x) in
    let none = h x in
    absurd cc
same_climb (x ∷ xs) (y ∷ ys) c d h =
    let first : x ≡ y = same_firsts x y xs ys (is_less x y) (same_gtid x y) refl refl c d h in
    let P : Gtid → Type 0 = λ z. (climbs (z ∷ ys) ≡ true) × ((q : Gtid) → among q (x ∷ xs) ≡ among q (z ∷ ys)) in
    let moved : P x = subst P (sym first) (d, h) in
    let rest = same_climb xs ys (and_parts (less_first x xs) (climbs xs) c).1 (and_parts (less_first x ys) (climbs ys) moved.0).1 (same_rest x xs ys c moved.0 moved.1) in
    λ i. first i ∷ rest i

any_tied : (q : Gtid) (gs : List Gtid) → list_any (eq_by_cmp gtid_cmp q) gs ≡ among q gs
any_tied q [] = refl
any_tied q (g ∷ gs) = λ i. gtid_tied q g i || any_tied q gs i

-- the GTIDs of spans, in their order
abbrev pub numbers_of : ℕ → ℕ → ℕ → List Gtid
numbers_of source a n = map (gtid source) (range_with_len a n)

abbrev pub members_of : List Span → List Gtid
members_of [] = []
members_of (s ∷ ss) = numbers_of s.source s.lo (suc (s.hi - s.lo)) ++ members_of ss

numbers_climb : (source a n : ℕ) (rest : List Gtid) → climbs rest ≡ true → ((m : ℕ) → a ≤ m → m < a + n → less_first (gtid source m) rest ≡ true) → climbs (numbers_of source a n ++ rest) ≡ true
numbers_climb source a zero rest c h = c
numbers_climb source a (suc zero) rest c h = and_from (less_first (gtid source a) rest) (climbs rest) (h a (omega arith) (omega arith)) c
numbers_climb source a (suc (suc n)) rest c h =
    and_from (is_less (gtid source a) (gtid source (a + 1))) (climbs (numbers_of source (a + 1) (suc n) ++ rest)) (next source a)
    (numbers_climb source (a + 1) (suc n) rest c (λ m lo hi. h m (omega arith) (omega arith)))
  where
    next : (source a : ℕ) → is_less (gtid source a) (gtid source (a + 1)) ≡ true
    next source a = grind (arith, nat_tests)

members_first : (s : Span) (ss : List Span) (m : ℕ) → list_all (is_before s) ss ≡ true → m ≤ s.hi → less_first (gtid s.source m) (members_of ss) ≡ true
members_first s [] m b le = refl
members_first s (t ∷ ts) m b le = later (and_parts (is_before s t) (list_all (is_before s) ts) b).0 le
  where
    later : is_before s t ≡ true → m ≤ s.hi → is_less (gtid s.source m) (gtid t.source t.lo) ≡ true
    later b le = grind (arith, nat_tests)

members_climb : (ss : List Span) → is_merged ss ≡ true → climbs (members_of ss) ≡ true
members_climb [] m = refl
members_climb (s ∷ ss) m =
    let h = merged_head s ss m in
    let f = h.filled in
    numbers_climb s.source s.lo (suc (s.hi - s.lo)) (members_of ss) (members_climb ss h.tail) (λ n lo hi. members_first s ss n h.after (omega arith))

-- they are the members of the set
any_members : (ss : List Span) (q : Gtid) → is_merged ss ≡ true → list_any (eq_by_cmp gtid_cmp q) (members_of ss) ≡ has ss q
any_members [] q m = refl
any_members (s ∷ ss) q m =
    let h = merged_head s ss m in
    let f = h.filled in
    list_any-append (eq_by_cmp gtid_cmp q) (numbers_of s.source s.lo (suc (s.hi - s.lo))) (members_of ss)
    ∙ (λ i. (any-numbers s.source q s.lo (suc (s.hi - s.lo)) ∙ ap (λ b. (q.source == s.source) && b) (last q.number f)) i || any_members ss q h.tail i)
  where
    last : (n : ℕ) → s.lo ≤ s.hi → (nat_le s.lo n && nat_lt n (s.lo + suc (s.hi - s.lo))) ≡ (nat_le s.lo n && nat_le n s.hi)
    last n f = grind (arith, nat_tests)

items_merged : (ss : List Span) → is_merged ss ≡ true → in_order (set.items (set_of ss)) ≡ members_of ss
items_merged ss m = same_climb (in_order (set.items (set_of ss))) (members_of ss) (climbs_order (set.items (set_of ss))) (members_climb ss m) (λ q.
    among_order q (set.items (set_of ss)) ∙ sym (any_tied q (set.items (set_of ss))) ∙ sym (set.contains-items (set_of ss) q)
    ∙ contains-set_of ss q ∙ sym (any_members ss q m) ∙ any_tied q (members_of ss))

-- the runs of the GTIDs of a merged list are its spans
apart_first : (source hi : ℕ) (ss : List Span) → list_all (is_before (record { source = source; lo = hi; hi = hi })) ss ≡ true → run_before (gtid source hi) ss ≡ record { source = source; lo = hi; hi = hi } ∷ ss
apart_first source hi [] b = refl
apart_first source hi (t ∷ ts) b =
    ap (λ c. cond c (record { source = t.source; lo = hi; hi = t.hi } ∷ ts) (record { source = source; lo = hi; hi = hi } ∷ t ∷ ts)) (apart (and_parts (is_before (record { source = source; lo = hi; hi = hi }) t) (list_all (is_before (record { source = source; lo = hi; hi = hi })) ts) b).0)
  where
    apart : is_before (record { source = source; lo = hi; hi = hi }) t ≡ true → ((t.source == source) && (t.lo == hi + 1)) ≡ false
    apart b = grind (arith, nat_tests)

run_numbers : (source a n hi : ℕ) (rest : List Gtid) (ss : List Span) → a + n ≡ hi → runs_of rest ≡ ss → list_all (is_before (record { source = source; lo = hi; hi = hi })) ss ≡ true
    → runs_of (numbers_of source a (suc n) ++ rest) ≡ record { source = source; lo = a; hi = hi } ∷ ss
run_numbers source a zero hi rest ss e r b =
    let same : a ≡ hi = omega arith in
    ap (run_before (gtid source a)) r ∙ ap (λ n. run_before (gtid source n) ss) same ∙ apart_first source hi ss b ∙ ap (λ n. record { source = source; lo = n; hi = hi } ∷ ss) (sym same)
run_numbers source a (suc n) hi rest ss e r b =
    ap (run_before (gtid source a)) (run_numbers source (a + 1) n hi rest ss (omega arith) r b)
    ∙ ap (λ c. cond c (record { source = source; lo = a; hi = hi } ∷ ss) (record { source = source; lo = a; hi = a } ∷ record { source = source; lo = a + 1; hi = hi } ∷ ss)) (joined source a)
  where
    joined : (source a : ℕ) → ((source == source) && (a + 1 == a + 1)) ≡ true
    joined source a = grind (arith, nat_tests)

runs_members : (ss : List Span) → is_merged ss ≡ true → runs_of (members_of ss) ≡ ss
runs_members [] m = refl
runs_members (s ∷ ss) m =
    let h = merged_head s ss m in
    let f = h.filled in
    run_numbers s.source s.lo (s.hi - s.lo) s.hi (members_of ss) ss (omega arith) (runs_members ss h.tail) h.after

-- the runs of a kept set are its list
pub runs_merged : (ss : List Span) → is_merged ss ≡ true → runs (set_of ss) ≡ ss
unfolding runs
runs_merged ss m = ap runs_of (items_merged ss m) ∙ runs_members ss m

pub runs_held : (ss : List Span) (s : Gtids) → is_merged ss ≡ true → set_of ss ≡ s → ss ≡ runs s
runs_held ss s m view = sym (runs_merged ss m) ∙ ap runs view

-- equal sets have equal lists
pub equal_lists : (xs ys : List Span) → is_merged xs ≡ true → is_merged ys ≡ true → set_of xs ≡ set_of ys → xs ≡ ys
equal_lists xs ys m n e = sym (runs_merged xs m) ∙ ap runs e ∙ runs_merged ys n

-- the start of the first of spans is greater than a GTID
abbrev pub less_start : Gtid → List Span → Bool
less_start g [] = true
less_start g (s ∷ ss) = is_less g (gtid s.source s.lo)

-- the runs of GTIDs are a merged list of those GTIDs
pub record AreRuns (gs : List Gtid) (ss : List Span) : Type 0 where
  pub merged : is_merged ss ≡ true
  pub has : (q : Gtid) → has ss q ≡ among q gs
  pub later : (g : Gtid) → less_first g gs ≡ true → less_start g ss ≡ true

abbrev pub single : Gtid → Span
single g = record { source = g.source; lo = g.number; hi = g.number }

abbrev pub longer_front : Gtid → Span → Span
longer_front g s = record { source = s.source; lo = g.number; hi = s.hi }

within_single : (g q : Gtid) → within (single g) q ≡ same_gtid q g
within_single g q = grind (arith, nat_tests)

within_front : (g q : Gtid) (s : Span) → s.lo ≤ s.hi → ((s.source == g.source) && (s.lo == g.number + 1)) ≡ true → within (longer_front g s) q ≡ (same_gtid q g || within s q)
within_front g q s f e = grind (arith, nat_tests)

single_merged : (g : Gtid) → is_merged (single g ∷ []) ≡ true
single_merged g = merged_cons (single g) [] (record { filled = self_le g.number; after = refl; tail = refl })

-- one GTID more, before the others
run_step : (g : Gtid) (gs : List Gtid) (s : Span) (ss : List Span) (b : Bool) → ((s.source == g.source) && (s.lo == g.number + 1)) ≡ b → less_first g gs ≡ true → AreRuns gs (s ∷ ss)
    → AreRuns (g ∷ gs) (cond b (longer_front g s ∷ ss) (single g ∷ s ∷ ss))
run_step g gs s ss true e first r =
    let h = merged_head s ss r.merged in
    record {
      merged = merged_cons (longer_front g s) ss (record { filled = below h.filled e; after = h.after; tail = h.tail });
      has = λ q. ap (λ b. b || has ss q) (within_front g q s h.filled e) ∙ or_assoc (same_gtid q g) (within s q) (has ss q) ∙ ap (λ b. same_gtid q g || b) (r.has q);
      later = λ k less. start k less e;
    }
  where
    below : s.lo ≤ s.hi → ((s.source == g.source) && (s.lo == g.number + 1)) ≡ true → g.number ≤ s.hi
    below f e = grind (arith, nat_tests)

    start : (k : Gtid) → is_less k g ≡ true → ((s.source == g.source) && (s.lo == g.number + 1)) ≡ true → is_less k (gtid s.source g.number) ≡ true
    start k less e = grind (arith, nat_tests)
run_step g gs s ss false e first r =
    let h = merged_head s ss r.merged in
    record {
      merged = merged_cons (single g) (s ∷ ss) (record { filled = self_le g.number; after = all_after (single g) s ss h (apart (r.later g first) e); tail = r.merged });
      has = λ q. (λ i. within_single g q i || r.has q i);
      later = λ k less. less;
    }
  where
    apart : is_less g (gtid s.source s.lo) ≡ true → ((s.source == g.source) && (s.lo == g.number + 1)) ≡ false → is_before (single g) s ≡ true
    apart a e = grind (arith, nat_tests)

run_added : (g : Gtid) (gs : List Gtid) (ss : List Span) → less_first g gs ≡ true → AreRuns gs ss → AreRuns (g ∷ gs) (run_before g ss)
run_added g gs [] first r = record {
  merged = single_merged g;
  has = λ q. (λ i. within_single g q i || r.has q i);
  later = λ k less. less;
}
run_added g gs (s ∷ ss) first r = run_step g gs s ss ((s.source == g.source) && (s.lo == g.number + 1)) refl first r

runs_are : (gs : List Gtid) → climbs gs ≡ true → AreRuns gs (runs_of gs)
runs_are [] c = record { merged = refl; has = λ q. refl; later = λ g e. refl }
runs_are (g ∷ gs) c = let w = and_parts (less_first g gs) (climbs gs) c in run_added g gs (runs_of gs) w.0 (runs_are gs w.1)

-- the runs of a set are merged, and are of that set
pub runs_are_merged : (s : Gtids) → is_merged (runs s) ≡ true
unfolding runs
runs_are_merged s = (runs_are (in_order (set.items s)) (climbs_order (set.items s))).merged

pub set_of_runs : (s : Gtids) → set_of (runs s) ≡ s
unfolding runs
set_of_runs s = same_members (set_of (runs_of (in_order (set.items s)))) s (λ q.
    contains-set_of (runs_of (in_order (set.items s))) q ∙ (runs_are (in_order (set.items s)) (climbs_order (set.items s))).has q
    ∙ among_order q (set.items s) ∙ sym (any_tied q (set.items s)) ∙ sym (set.contains-items s q))
