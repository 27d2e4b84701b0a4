-- Membership decides a set, and what is a member after each operation.
use Rattle.std.proofs.Common.{eq-eqb, add_comm, cond, not, ◌≤◌, ◌<◌, ◌≡◌, ℕ, ◌+◌, ◌-◌, zero, suc, Bool, true, false, ◌&&◌, ◌||◌, List, [], ◌∷◌, ◌++◌, map, refl, sym, ap, ◌∙◌, arith, nat_eq, nat_le, nat_lt}
use Rattle.std.specs.Prelude.{◌==◌, Option, Some, None, find, sum_by}
use Rattle.std.proofs.lemmas.Bool.Decides.{nat_tests}
use Rattle.std.specs.List.{range_with_len, list_any}
use Rattle.std.specs.Ordering.{nat_cmp, eq_by_cmp}
use Rattle.std.specs.Cmp.{tied_then, unsigned_tied}
use Rattle.std.specs.FinSet as set
use Rattle.gtid_text.specs.declared.Gtid.{Gtid}
use Rattle.gtid_text.specs.Gtids.{gtid_cmp}
use Rattle.gtid_text.specs.declared.Span.{Span}
use Rattle.gtid_set.specs.Sets.{Gtids, gtid, interval, covers, least_number, greatest}
use Rattle.std.proofs.lemmas.List.Sums.{sum_by-cons}
use Rattle.std.proofs.lemmas.List.Folds.{list_any-append}
use Rattle.gtid_set.specs.Spans.{set_of}
use mathlib.Core.Bool.{or-false}
use Rattle.lemmas.proofs.Tests.{or_swap}
use Rattle.lemmas.proofs.SameGtid.{gtid_total, gtid_exact}

-- two sets with the same members are equal
pub same_members : (s t : Gtids) → ((g : Gtid) → set.contains s g ≡ set.contains t g) → s ≡ t
same_members s t h = set.same_set gtid_total gtid_exact s t h

-- the test by which a set knows a GTID
pub gtid_tied : (x y : Gtid) → eq_by_cmp gtid_cmp x y ≡ ((x.source == y.source) && (x.number == y.number))
gtid_tied x y = sym (tied_then (nat_cmp x.source y.source) (nat_cmp x.number y.number)) ∙ (λ i. unsigned_tied x.source y.source i && unsigned_tied x.number y.number i)

both_or : (b e r : Bool) → ((b && e) || (b && r)) ≡ (b && (e || r))
both_or true e r = refl
both_or false e r = refl

next : (n a k : ℕ) → (nat_eq n a || (nat_le (a + 1) n && nat_lt n (a + 1 + k))) ≡ (nat_le a n && nat_lt n (a + suc k))
next n a k = grind (arith, nat_tests)

none : (b : Bool) (n a : ℕ) → false ≡ (b && (nat_le a n && nat_lt n (a + 0)))
none true n a = grind (arith, nat_tests)
none false n a = refl

pub any-numbers : (source : ℕ) (g : Gtid) (a n : ℕ) → list_any (eq_by_cmp gtid_cmp g) (map (gtid source) (range_with_len a n)) ≡ ((g.source == source) && (nat_le a g.number && nat_lt g.number (a + n)))
any-numbers source g a zero = none (g.source == source) g.number a
any-numbers source g a (suc n) =
    (λ i. gtid_tied g (gtid source a) i || any-numbers source g (a + 1) n i)
    ∙ both_or (g.source == source) (g.number == a) _
    ∙ ap (λ b. (g.source == source) && b) (next g.number a n)

pub ends : (n lo hi : ℕ) → (nat_le lo n && nat_lt n (lo + (hi + 1 - lo))) ≡ (nat_le lo n && nat_le n hi)
ends n lo hi = grind (arith, nat_tests)

pub contains-interval : (source lo hi : ℕ) (g : Gtid) → set.contains (interval source lo hi) g ≡ covers source lo hi g
unfolding interval
contains-interval source lo hi g =
    set.contains-from_list gtid_total _ g
    ∙ any-numbers source g lo (hi + 1 - lo)
    ∙ ap (λ b. (g.source == source) && b) (ends g.number lo hi)

pub contains-set_of : (ss : List Span) (g : Gtid) → set.contains (set_of ss) g ≡ list_any (λ s. covers s.source s.lo s.hi g) ss
contains-set_of [] g = set.contains-empty gtid_cmp g
contains-set_of (s ∷ ss) g =
    set.contains-union gtid_total (set_of ss) (interval s.source s.lo s.hi) g
    ∙ swapped (set.contains (set_of ss) g) (set.contains (interval s.source s.lo s.hi) g)
    ∙ (λ i. contains-interval s.source s.lo s.hi g i || contains-set_of ss g i)
  where
    swapped : (a b : Bool) → (a || b) ≡ (b || a)
    swapped true true = refl
    swapped true false = refl
    swapped false true = refl
    swapped false false = refl

one : (n m : ℕ) → (nat_le m n && nat_le n m) ≡ (n == m)
one n m = grind (arith, nat_tests)

pub union_empty : (s : Gtids) → s ≡ set.union s set.empty
union_empty s = same_members s (set.union s set.empty) (λ q. sym (set.contains-union gtid_total s set.empty q ∙ ap (λ b. set.contains s q || b) (set.contains-empty gtid_cmp q) ∙ or-false (set.contains s q)))

pub union_insert : (s t : Gtids) (g : Gtid) → set.insert (set.union s t) g ≡ set.union s (set.insert t g)
union_insert s t g = same_members _ _ (λ q.
    set.contains-insert gtid_total (set.union s t) g q
    ∙ ap (λ b. eq_by_cmp gtid_cmp q g || b) (set.contains-union gtid_total s t q)
    ∙ or_swap (eq_by_cmp gtid_cmp q g) (set.contains s q) (set.contains t q)
    ∙ sym (set.contains-union gtid_total s (set.insert t g) q ∙ ap (λ b. set.contains s q || b) (set.contains-insert gtid_total t g q)))

-- the spans of two lists together
pub set_of-append : (xs ys : List Span) → set_of (xs ++ ys) ≡ set.union (set_of xs) (set_of ys)
set_of-append xs ys = same_members _ _ (λ q.
    contains-set_of (xs ++ ys) q
    ∙ list_any-append (λ s. covers s.source s.lo s.hi q) xs ys
    ∙ (λ i. sym (contains-set_of xs q) i || sym (contains-set_of ys q) i)
    ∙ sym (set.contains-union gtid_total (set_of xs) (set_of ys) q))

-- a number that passes, if the numbers before it do not
unfoldable pub least_from : (ℕ → Bool) → ℕ → ℕ → Option ℕ
least_from test a n = find test (range_with_len a n)

pub least_first : (test : ℕ → Bool) → least_number test ≡ least_from test 1 greatest
unfolding least_number least_from
least_first test = refl

pub least_none : (test : ℕ → Bool) (a : ℕ) → least_from test a 0 ≡ None
unfolding least_from
least_none test a = refl

pub least_next : (test : ℕ → Bool) (a n m : ℕ) → suc n ≡ m → least_from test a m ≡ cond (test a) (Some a) (least_from test (a + 1) n)
unfolding least_from
least_next test a n m e = ap (λ k. find test (range_with_len a k)) (sym e)

pub greatest_is : greatest ≡ 9223372036854775807
unfolding greatest
greatest_is = refl

abbrev pub is_unused : Gtids → ℕ → ℕ → Bool
is_unused s source n = not (set.contains s (gtid source n))

-- a run of new numbers of one source adds as many members as it is long
pub len_run : (s : Gtids) (source a n : ℕ) → ((m : ℕ) → a ≤ m → m < a + n → set.contains s (gtid source m) ≡ false) → set.len (set.union s (set.from_list (map (gtid source) (range_with_len a n)))) ≡ set.len s + n
len_run s source a zero new = ap set.len (sym (union_empty s)) ∙ omega arith
len_run s source a (suc n) new =
    ap set.len (sym (union_insert s rest (gtid source a)))
    ∙ set.len-insert gtid_total (set.union s rest) (gtid source a)
    ∙ ap (λ b. cond b (set.len (set.union s rest)) (set.len (set.union s rest) + 1)) absent
    ∙ ap (λ k. k + 1) (len_run s source (a + 1) n (λ m h k. new m (omega arith) (omega arith)))
    ∙ omega arith
  where
    rest : Gtids
    rest = set.from_list (map (gtid source) (range_with_len (a + 1) n))

    below : nat_le (a + 1) a ≡ false
    below = grind (arith, nat_tests)

    either : (b : Bool) → (b && (false && nat_lt a (a + 1 + n))) ≡ false
    either true = refl
    either false = refl

    later : set.contains rest (gtid source a) ≡ false
    later =
        set.contains-from_list gtid_total (map (gtid source) (range_with_len (a + 1) n)) (gtid source a)
        ∙ any-numbers source (gtid source a) (a + 1) n
        ∙ ap (λ b. (source == source) && (b && nat_lt a (a + 1 + n))) below
        ∙ either (source == source)

    absent : set.contains (set.union s rest) (gtid source a) ≡ false
    absent = set.contains-union gtid_total s rest (gtid source a) ∙ (λ i. new a (omega arith) (omega arith) i || later i)

-- no span has a number of a later one
abbrev pub AreApart : List Span → Type 0
AreApart [] = Unit {0}
AreApart (s ∷ ss) = ((m : ℕ) → s.lo ≤ m → m ≤ s.hi → set.contains (set_of ss) (gtid s.source m) ≡ false) × AreApart ss

abbrev pub size_of : Span → ℕ
size_of s = s.hi + 1 - s.lo

-- spans apart have as many members as their lengths add up to
pub len-set_of : (ss : List Span) → AreApart ss → set.len (set_of ss) ≡ sum_by size_of ss
unfolding interval
len-set_of [] apart = set.len-empty gtid_cmp
len-set_of (s ∷ ss) apart =
    len_run (set_of ss) s.source s.lo (s.hi + 1 - s.lo) (λ m h k. apart.0 m h (omega arith))
    ∙ ap (λ k. k + (s.hi + 1 - s.lo)) (len-set_of ss apart.1)
    ∙ add_comm (sum_by size_of ss) (size_of s)
    ∙ sym (sum_by-cons size_of s ss)

-- a set has what was put into it
pub has_itself : (s : Gtids) (g : Gtid) → set.contains (set.insert s g) g ≡ true
has_itself s g =
    set.contains-insert gtid_total s g g
    ∙ ap (λ b. b || set.contains s g) (gtid_tied g g ∙ (λ i. eq-eqb g.source g.source refl i && eq-eqb g.number g.number refl i))

-- one GTID more in a list
pub set_push : (gs : List Gtid) (g : Gtid) → set.from_list {R = gtid_cmp} (gs ++ g ∷ []) ≡ set.insert (set.from_list gs) g
set_push gs g = set.from_list_push gtid_total gtid_exact gs g
