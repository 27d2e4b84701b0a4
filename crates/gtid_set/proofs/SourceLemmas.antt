-- The sources of spans, and how many there are.
use Rattle.std.proofs.Common.{◌≡◌, ◌≤◌, ◌+◌, ℕ, Bool, true, false, not, cond, ◌&&◌, ◌||◌, nat_le, List, [], ◌∷◌, ◌++◌, refl, sym, ap, ◌∙◌, arith}
use Rattle.std.specs.Prelude.{◌==◌, Option, Some, None}
use Rattle.std.specs.List.{list_all, list_any}
use Rattle.std.specs.FinSet as set
use Rattle.std.specs.Ordering.{nat_cmp, eq_by_cmp}
use Rattle.std.specs.Cmp.{nat_cmp_total, unsigned_tied}
use Rattle.std.specs.FinMap.{nat_cmp-IsAntisymmetric}
use Rattle.std.proofs.lemmas.Bool.Decides.{nat_tests}
use Rattle.std.proofs.lemmas.List.Folds.{list_any-append}
use Rattle.gtid_text.specs.declared.Span.{Span}
use Rattle.gtid_set.specs.Sweep.{TakesFirst, start_of, is_from, sources_in, is_new}
use Rattle.gtid_set.proofs.SpanLemmas.{all_weaker, any_none, takes_all}
use Rattle.std.proofs.lemmas.Bool.{and_from}

pub Numbers : Type 0
Numbers = set.FinSet nat_cmp

-- the numbers besides one
abbrev pub besides : Option ℕ → set.FinSet nat_cmp → set.FinSet nat_cmp
besides None s = s
besides (Some n) s = set.remove s n

-- each span has the source or a greater one
abbrev pub all_from : Option ℕ → List Span → Bool
all_from None ss = true
all_from (Some n) ss = list_all (λ s. nat_le n s.source) ss

pub same_numbers : (s t : set.FinSet nat_cmp) → ((q : ℕ) → set.contains s q ≡ set.contains t q) → s ≡ t
same_numbers s t h = set.same_set nat_cmp_total nat_cmp-IsAntisymmetric s t h

pub contains-sources_in : (ss : List Span) (q : ℕ) → set.contains (sources_in ss) q ≡ list_any (λ s. q == s.source) ss
contains-sources_in [] q = set.contains-empty nat_cmp q
contains-sources_in (s ∷ ss) q =
    set.contains-insert nat_cmp_total (sources_in ss) s.source q
    ∙ (λ i. unsigned_tied q s.source i || contains-sources_in ss q i)

-- the spans of two lists have the source of the first and those of the others
sources_taken : (left right : List Span) (x : Span) (l r : List Span) → TakesFirst left right x l r → sources_in (left ++ right) ≡ set.insert (sources_in (l ++ r)) x.source
sources_taken left right x l r takes = same_numbers _ _ (λ q.
    contains-sources_in (left ++ right) q
    ∙ list_any-append (λ s. q == s.source) left right
    ∙ takes.any (λ s. q == s.source)
    ∙ ap (λ b. (q == x.source) || b) (sym (list_any-append (λ s. q == s.source) l r) ∙ sym (contains-sources_in (l ++ r) q))
    ∙ ap (λ b. b || set.contains (sources_in (l ++ r)) q) (sym (unsigned_tied q x.source))
    ∙ sym (set.contains-insert nat_cmp_total (sources_in (l ++ r)) x.source q))

-- a number that is there already adds nothing besides itself
besides_again : (s : set.FinSet nat_cmp) (n : ℕ) → set.remove (set.insert s n) n ≡ set.remove s n
besides_again s n = same_numbers _ _ (λ q.
    set.contains-remove nat_cmp_total (set.insert s n) n q
    ∙ ap (λ b. not (eq_by_cmp nat_cmp q n) && b) (set.contains-insert nat_cmp_total s n q)
    ∙ absorbed (eq_by_cmp nat_cmp q n) (set.contains s q)
    ∙ sym (set.contains-remove nat_cmp_total s n q))
  where
    absorbed : (a b : Bool) → (not a && (a || b)) ≡ (not a && b)
    absorbed true b = refl
    absorbed false b = refl

-- a number is one more than those besides it
pub len_besides : (s : set.FinSet nat_cmp) (n : ℕ) → set.len (set.insert s n) ≡ set.len (set.remove s n) + 1
len_besides s n =
    ap set.len back
    ∙ set.len-insert nat_cmp_total (set.remove s n) n
    ∙ ap (λ b. cond b (set.len (set.remove s n)) (set.len (set.remove s n) + 1)) gone
  where
    itself : eq_by_cmp nat_cmp n n ≡ true
    itself = unsigned_tied n n ∙ same n
      where
        same : (n : ℕ) → (n == n) ≡ true
        same n = grind (arith, nat_tests)

    gone : set.contains (set.remove s n) n ≡ false
    gone = set.contains-remove nat_cmp_total s n n ∙ ap (λ b. not b && set.contains s n) itself

    with_it : (a b : Bool) → (a || b) ≡ (a || (not a && b))
    with_it true b = refl
    with_it false b = refl

    back : set.insert s n ≡ set.insert (set.remove s n) n
    back = same_numbers _ _ (λ q.
        set.contains-insert nat_cmp_total s n q
        ∙ with_it (eq_by_cmp nat_cmp q n) (set.contains s q)
        ∙ ap (λ b. eq_by_cmp nat_cmp q n || b) (sym (set.contains-remove nat_cmp_total s n q))
        ∙ sym (set.contains-insert nat_cmp_total (set.remove s n) n q))

-- a number that is not there is besides all
besides_other : (s : set.FinSet nat_cmp) (n : ℕ) → set.contains s n ≡ false → set.remove s n ≡ s
besides_other s n none = same_numbers _ _ (λ q. set.contains-remove nat_cmp_total s n q ∙ cases q (eq_by_cmp nat_cmp q n) refl)
  where
    same : (q : ℕ) → eq_by_cmp nat_cmp q n ≡ true → q ≡ n
    same q e = equal q (sym (unsigned_tied q n) ∙ e)
      where
        equal : (q : ℕ) → (q == n) ≡ true → q ≡ n
        equal q h = grind (arith, nat_tests)

    cases : (q : ℕ) (b : Bool) → eq_by_cmp nat_cmp q n ≡ b → (not (eq_by_cmp nat_cmp q n) && set.contains s q) ≡ set.contains s q
    cases q true e = ap (λ b. not b && set.contains s q) e ∙ sym none ∙ ap (set.contains s) (sym (same q e))
    cases q false e = ap (λ b. not b && set.contains s q) e

-- nothing of what is left has the last source, if the first has a new one
fresh : (last : Option ℕ) (left right : List Span) (x : Span) (l r : List Span) → TakesFirst left right x l r → is_new last x.source ≡ true → all_from last (x ∷ []) ≡ true
    → besides last (set.insert (sources_in (l ++ r)) x.source) ≡ set.insert (sources_in (l ++ r)) x.source
fresh None left right x l r takes new from = refl
fresh (Some q) left right x l r takes new from =
    besides_other (set.insert (sources_in (l ++ r)) x.source) q
    (set.contains-insert nat_cmp_total (sources_in (l ++ r)) x.source q
    ∙ ap (λ b. b || set.contains (sources_in (l ++ r)) q) (unsigned_tied q x.source ∙ differ q x.source new)
    ∙ contains-sources_in (l ++ r) q ∙ list_any-append (λ s. q == s.source) l r
    ∙ (λ i. any_none (λ s. q == s.source) (λ t. is_from (start_of x) (start_of t)) l (λ s h. later s h new from) takes.left_later i
    || any_none (λ s. q == s.source) (λ t. is_from (start_of x) (start_of t)) r (λ s h. later s h new from) takes.right_later i))
  where
    differ : (q n : ℕ) → not (q == n) ≡ true → (q == n) ≡ false
    differ q n h = grind (arith, nat_tests)

    later : (s : Span) → is_from (start_of x) (start_of s) ≡ true → not (q == x.source) ≡ true → (nat_le q x.source && true) ≡ true → (q == s.source) ≡ false
    later s h n f = grind (arith, nat_tests)

-- how many are left after the first span
count_left : (last : Option ℕ) (left right : List Span) (x : Span) (l r : List Span) (b : Bool) → TakesFirst left right x l r → all_from last (x ∷ []) ≡ true → is_new last x.source ≡ b
    → set.len (besides last (sources_in (left ++ right))) ≡ cond b (set.len (besides (Some x.source) (sources_in (l ++ r))) + 1) (set.len (besides (Some x.source) (sources_in (l ++ r))))
count_left last left right x l r true takes from new =
    ap (λ s. set.len (besides last s)) (sources_taken left right x l r takes) ∙ ap set.len (fresh last left right x l r takes new from) ∙ len_besides (sources_in (l ++ r)) x.source
count_left None left right x l r false takes from new = absurd cc
count_left (Some q) left right x l r false takes from new =
    ap (λ s. set.len (set.remove s q)) (sources_taken left right x l r takes)
    ∙ ap (λ n. set.len (set.remove (set.insert (sources_in (l ++ r)) x.source) n)) (equal q x.source new)
    ∙ ap set.len (besides_again (sources_in (l ++ r)) x.source)
  where
    equal : (q n : ℕ) → not (q == n) ≡ false → q ≡ n
    equal q n h = grind (arith, nat_tests)

pub nothing_from : (last : Option ℕ) → all_from last [] ≡ true
nothing_from None = refl
nothing_from (Some q) = refl

-- the step of a count
pub count_step : (last : Option ℕ) (left right : List Span) (x : Span) (l r : List Span) (count new total : ℕ) → TakesFirst left right x l r → all_from last (x ∷ []) ≡ true
    → new ≡ cond (is_new last x.source) (count + 1) count → count + set.len (besides last (sources_in (left ++ right))) ≡ total → new + set.len (besides (Some x.source) (sources_in (l ++ r))) ≡ total
count_step last left right x l r count new total takes from e h = cases (is_new last x.source) refl
  where
    cases : (b : Bool) → is_new last x.source ≡ b → new + set.len (besides (Some x.source) (sources_in (l ++ r))) ≡ total
    cases true b =
        let n = e ∙ ap (λ b. cond b (count + 1) count) b in
        let left_now = count_left last left right x l r true takes from b in
        omega (arith, n, left_now, h)
    cases false b =
        let n = e ∙ ap (λ b. cond b (count + 1) count) b in
        let left_now = count_left last left right x l r false takes from b in
        omega (arith, n, left_now, h)

pub bound_step : (last : Option ℕ) (source count new m n bound : ℕ) → m + 1 ≡ n → new ≡ cond (is_new last source) (count + 1) count → count + n ≤ bound → new + m ≤ bound
bound_step last source count new m n bound e h le = cases (is_new last source) refl
  where
    cases : (b : Bool) → is_new last source ≡ b → new + m ≤ bound
    cases true b = let k = h ∙ ap (λ b. cond b (count + 1) count) b in omega (arith, k, e, le)
    cases false b = let k = h ∙ ap (λ b. cond b (count + 1) count) b in omega (arith, k, e, le)

-- the later spans have the source of the first or a greater one
pub all_from_first : (x : Span) (ss : List Span) → list_all (λ t. is_from (start_of x) (start_of t)) ss ≡ true → all_from (Some x.source) ss ≡ true
all_from_first x ss h = all_weaker (λ t. is_from (start_of x) (start_of t)) (λ s. nat_le x.source s.source) ss (λ s k. greater s k) h
  where
    greater : (s : Span) → is_from (start_of x) (start_of s) ≡ true → nat_le x.source s.source ≡ true
    greater s k = grind (arith, nat_tests)

pub first_from : (last : Option ℕ) (left right : List Span) (x : Span) (l r : List Span) → TakesFirst left right x l r → all_from last left ≡ true → all_from last right ≡ true → all_from last (x ∷ []) ≡ true
first_from None left right x l r takes a b = refl
first_from (Some q) left right x l r takes a b = and_from (nat_le q x.source) true (takes_all left right x l r takes (λ s. nat_le q s.source) a b).0 refl

pub count_end : (last : Option ℕ) (left right : List Span) (count total : ℕ) → left ≡ [] → right ≡ [] → count + set.len (besides last (sources_in (left ++ right))) ≡ total → count ≡ total
count_end last left right count total e f h =
    let none : set.len (besides last (sources_in (left ++ right))) ≡ 0 = (λ i. set.len (besides last (sources_in (e i ++ f i)))) ∙ empty last in
    omega (arith, none, h)
  where
    empty : (last : Option ℕ) → set.len (besides last (sources_in [])) ≡ 0
    empty None = set.len-empty nat_cmp
    empty (Some q) = ap set.len (besides_other (sources_in []) q (set.contains-empty nat_cmp q)) ∙ set.len-empty nat_cmp
