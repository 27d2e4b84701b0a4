-- Spans in the order of their starts.
use Rattle.std.proofs.Common.{◌≡◌, ◌≤◌, ◌<◌, ℕ, suc, Bool, true, false, not, ◌||◌, nat_le, List, [], ◌∷◌, length, get_or, refl, sym, ap, ◌∙◌, arith}
use Rattle.std.specs.List.{list_all, list_any}
use Rattle.std.specs.List.Sorted.{IsPermutation, IsSortedByKey}
use Rattle.std.specs.Ordering.{is_lt}
use Rattle.std.proofs.lemmas.Bool.Decides.{nat_tests}
use Rattle.std.proofs.lemmas.List.Sorted.{ranks_by, sorted_far, list_any-IsPermutation}
use Rattle.gtid_text.specs.declared.Gtid.{Gtid}
use Rattle.gtid_text.specs.declared.Span.{Span}
use Rattle.gtid_text.specs.Gtids.{gtid_cmp}
use Rattle.gtid_set.specs.Spans.{set_of}
use Rattle.gtid_set.specs.Sweep.{start_of, is_from, is_sorted, within}
use Rattle.gtid_set.proofs.SetLemmas.{same_members, contains-set_of}
use Rattle.gtid_set.proofs.SpanLemmas.{any_none}
use Rattle.std.proofs.lemmas.Bool.{and_from}
use Rattle.lemmas.proofs.SameGtid.{gtid_total}

from_not_less : (p q : Gtid) → is_lt (gtid_cmp q p) ≡ false → is_from p q ≡ true
from_not_less p q e = grind (arith, nat_tests)

all_far : (p : Span → Bool) (ss : List Span) → ((j : ℕ) (d : Span) → j < length ss → p (get_or ss j d) ≡ true) → list_all p ss ≡ true
all_far p [] h = refl
all_far p (s ∷ ss) h = and_from (p s) (list_all p ss) (h 0 s (omega arith)) (all_far p ss (λ j d lt. h (suc j) d (omega arith)))

rises_far : (ss : List Span) → ((i j : ℕ) (d : Span) → i ≤ j → j < length ss → is_from (start_of (get_or ss i d)) (start_of (get_or ss j d)) ≡ true) → is_sorted ss ≡ true
rises_far [] h = refl
rises_far (s ∷ ss) h =
    and_from (list_all (λ t. is_from (start_of s) (start_of t)) ss) (is_sorted ss)
    (all_far (λ t. is_from (start_of s) (start_of t)) ss (λ j d lt. h 0 (suc j) d (omega arith) (omega arith)))
    (rises_far ss (λ i j d le lt. h (suc i) (suc j) d (omega arith) (omega arith)))

pub rises_sorted : (ss : List Span) → IsSortedByKey start_of gtid_cmp ss → is_sorted ss ≡ true
rises_sorted ss up = rises_far ss (λ i j d le lt.
    from_not_less (start_of (get_or ss i d)) (start_of (get_or ss j d)) (sorted_far (λ x y. is_lt (gtid_cmp (start_of x) (start_of y))) (ranks_by gtid_total start_of) ss up i j d le lt))

-- the same spans in another order
pub same_set_sorted : (xs ys : List Span) → IsPermutation xs ys → set_of ys ≡ set_of xs
same_set_sorted xs ys p = same_members (set_of ys) (set_of xs) (λ q.
    contains-set_of ys q ∙ sym (list_any-IsPermutation (λ s. within s q) xs ys p) ∙ sym (contains-set_of xs q))

not_any : (ss : List Span) → list_any (λ s. not (nat_le s.lo s.hi)) ss ≡ false → list_all (λ s. nat_le s.lo s.hi) ss ≡ true
not_any [] h = refl
not_any (s ∷ ss) h = and_from (nat_le s.lo s.hi) (list_all (λ s. nat_le s.lo s.hi) ss) (this (nat_le s.lo s.hi) (list_any (λ s. not (nat_le s.lo s.hi)) ss) h) (not_any ss (rest (nat_le s.lo s.hi) (list_any (λ s. not (nat_le s.lo s.hi)) ss) h))
  where
    this : (a b : Bool) → (not a || b) ≡ false → a ≡ true
    this true b h = refl
    this false b h = absurd cc

    rest : (a b : Bool) → (not a || b) ≡ false → b ≡ false
    rest true b h = h
    rest false b h = absurd cc

pub filled_sorted : (xs ys : List Span) → IsPermutation xs ys → list_all (λ s. nat_le s.lo s.hi) xs ≡ true → list_all (λ s. nat_le s.lo s.hi) ys ≡ true
filled_sorted xs ys p f =
    not_any ys (sym (list_any-IsPermutation (λ s. not (nat_le s.lo s.hi)) xs ys p) ∙ any_none (λ s. not (nat_le s.lo s.hi)) (λ s. nat_le s.lo s.hi) xs (λ s e. ap not e) f)
