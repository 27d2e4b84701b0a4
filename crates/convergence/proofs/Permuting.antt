-- Lists of entries in which no GTID is twice, and that have the same members.
use Rattle.std.proofs.Common.{◌≡◌, ◌≢◌, ℕ, zero, suc, true, false, ◌||◌, ◌⊎◌, inl, inr, List, [], ◌∷◌, ◌++◌, Some, refl, sym, ap, ◌∙◌, subst}
use Rattle.std.specs.Prelude.{slice_get}
use Rattle.std.specs.List.Sorted.{IsPermutation}
use Rattle.std.specs.FinSet as set
use Rattle.std.proofs.lemmas.Bool.{or_cases, or_left, or_right, or_parts, or_from}
use Rattle.std.proofs.lemmas.List.Sorted.{IsPermutation-refl, IsPermutation-cons, IsPermutation-middle, IsPermutation-sym, IsPermutation-trans}
use Rattle.lemmas.proofs.Tests.{not_both}
use Rattle.lemmas.proofs.SameGtid.{same_itself, same_is_equal}
use Rattle.gtid_text.specs.declared.Gtid.{Gtid}
use Rattle.gtid_text.specs.Gtids.{same_gtid}
use Rattle.gtid_set.specs.Sets.{Gtids}
use Rattle.journal.specs.declared.Entry.{Entry}
use Rattle.journal.specs.Journals.{AreNew}
use Rattle.history.proofs.Covering.{is_entry, covered, in_insert}
use Rattle.convergence.proofs.Invariant.{IsIn}

-- ---- members

pub is_in_entry : (es : List Entry) (x : Entry) → IsIn x es → is_entry es x.gtid ≡ true
is_in_entry [] x i = absurd i
is_in_entry (e ∷ es) x (inl same) = or_left (same_gtid x.gtid e.gtid) (is_entry es x.gtid) (ap (λ (y : Entry). same_gtid x.gtid y.gtid) same ∙ same_itself x.gtid)
is_in_entry (e ∷ es) x (inr later) = or_right (same_gtid x.gtid e.gtid) (is_entry es x.gtid) (is_in_entry es x later)

pub entry_is_in : (es : List Entry) (g : Gtid) → is_entry es g ≡ true → (x : Entry) × IsIn x es × (g ≡ x.gtid)
entry_is_in [] g h = cc
entry_is_in (e ∷ es) g h = elim (or_cases (same_gtid g e.gtid) (is_entry es g) h) [
  | inl here ↦ (e, inl refl, same_is_equal g e.gtid here)
  | inr later ↦ let r = entry_is_in es g later in (r.0, inr r.1, r.2)
]

pub in_place : (es : List Entry) (x : Entry) → IsIn x es → (i : ℕ) × (slice_get es i ≡ Some x)
in_place [] x i = absurd i
in_place (e ∷ es) x (inl same) = (zero, ap Some same)
in_place (e ∷ es) x (inr later) = let r = in_place es x later in (suc r.0, r.1)

-- ---- no GTID twice

abbrev pub EachOnce : List Entry → Type 0
EachOnce [] = Unit {0}
EachOnce (e ∷ es) = ((x : Entry) → IsIn x es → x.gtid ≢ e.gtid) × EachOnce es

-- what is new was not seen
pub unseen : (seen : Gtids) (es : List Entry) (x : Entry) → AreNew seen es → IsIn x es → set.contains seen x.gtid ≡ false
unseen seen [] x new i = absurd i
unseen seen (e ∷ es) x new (inl same) = ap (λ (y : Entry). set.contains seen y.gtid) (sym same) ∙ new.0
unseen seen (e ∷ es) x new (inr later) =
    (or_parts (same_gtid x.gtid e.gtid) (set.contains seen x.gtid) (sym (in_insert seen e.gtid x.gtid) ∙ unseen (set.insert seen e.gtid) es x new.1 later)).1

pub once_from_new : (seen : Gtids) (es : List Entry) → AreNew seen es → EachOnce es
once_from_new seen [] new = tt
once_from_new seen (e ∷ es) new = (
  λ x i same.
      let other : same_gtid x.gtid e.gtid ≡ false = (or_parts (same_gtid x.gtid e.gtid) (set.contains seen x.gtid) (sym (in_insert seen e.gtid x.gtid) ∙ unseen (set.insert seen e.gtid) es x new.1 i)).0 in
      not_both (same_gtid x.gtid e.gtid) (ap (λ (g : Gtid). same_gtid g e.gtid) same ∙ same_itself e.gtid) other,
  once_from_new (set.insert seen e.gtid) es new.1,
)

pub new_push : (seen : Gtids) (es : List Entry) (x : Entry) → AreNew seen es → covered seen es x.gtid ≡ false → AreNew seen (es ++ x ∷ [])
new_push seen [] x new n = ((or_parts (set.contains seen x.gtid) false n).0, tt)
new_push seen (e ∷ es) x new n =
    let a = or_parts (set.contains seen x.gtid) (same_gtid x.gtid e.gtid || is_entry es x.gtid) n in
    let b = or_parts (same_gtid x.gtid e.gtid) (is_entry es x.gtid) a.1 in (
      new.0,
      new_push (set.insert seen e.gtid) es x new.1
          (or_from (set.contains (set.insert seen e.gtid) x.gtid) (is_entry es x.gtid) (in_insert seen e.gtid x.gtid ∙ or_from (same_gtid x.gtid e.gtid) (set.contains seen x.gtid) b.0 a.0) b.1),
    )

-- ---- the same members

record Parts (ys : List Entry) (x : Entry) : Type 0 where
  before : List Entry
  behind : List Entry
  parts : ys ≡ before ++ x ∷ behind

parts_at : (ys : List Entry) (x : Entry) → IsIn x ys → Parts ys x
parts_at [] x i = absurd i
parts_at (y ∷ ys) x (inl same) = record { before = []; behind = ys; parts = ap (λ z. z ∷ ys) same }
parts_at (y ∷ ys) x (inr later) = let p = parts_at ys x later in record { before = y ∷ p.before; behind = p.behind; parts = ap (λ zs. y ∷ zs) p.parts }

in_middle : (us vs : List Entry) (x z : Entry) → IsIn z (us ++ x ∷ vs) → (x ≡ z) ⊎ IsIn z (us ++ vs)
in_middle [] vs x z (inl same) = inl same
in_middle [] vs x z (inr later) = inr later
in_middle (u ∷ us) vs x z (inl same) = inr (inl same)
in_middle (u ∷ us) vs x z (inr later) = elim (in_middle us vs x z later) [ inl here ↦ inl here | inr other ↦ inr (inr other) ]

from_rest : (us vs : List Entry) (x z : Entry) → IsIn z (us ++ vs) → IsIn z (us ++ x ∷ vs)
from_rest [] vs x z i = inr i
from_rest (u ∷ us) vs x z (inl same) = inl same
from_rest (u ∷ us) vs x z (inr later) = inr (from_rest us vs x z later)

at_middle : (us vs : List Entry) (x : Entry) → IsIn x (us ++ x ∷ vs)
at_middle [] vs x = inl refl
at_middle (u ∷ us) vs x = inr (at_middle us vs x)

-- without one, the rest is once, and none of it has its GTID
rest_once : (us vs : List Entry) (x : Entry) → EachOnce (us ++ x ∷ vs) → EachOnce (us ++ vs) × ((z : Entry) → IsIn z (us ++ vs) → z.gtid ≢ x.gtid)
rest_once [] vs x once = (once.1, once.0)
rest_once (u ∷ us) vs x once =
    let r = rest_once us vs x once.1 in (
      (λ z i. once.0 z (from_rest us vs x z i), r.0),
      λ z i same. elim i [
        | inl here ↦ once.0 x (at_middle us vs x) (sym (ap (λ (y : Entry). y.gtid) here ∙ same))
        | inr later ↦ r.1 z later same
      ],
    )

pub permuted : (xs ys : List Entry) → EachOnce xs → EachOnce ys → ((z : Entry) → IsIn z xs → IsIn z ys) → ((z : Entry) → IsIn z ys → IsIn z xs) → IsPermutation xs ys
permuted [] [] a b to from = IsPermutation-refl []
permuted [] (y ∷ ys) a b to from = absurd (from y (inl refl))
permuted (x ∷ xs) ys a b to from =
    let p = parts_at ys x (to x (inl refl)) in
    let us = p.before in
    let vs = p.behind in
    let r = rest_once us vs x (subst EachOnce p.parts b) in
    let rest : IsPermutation xs (us ++ vs) = permuted xs (us ++ vs) a.1 r.0
    (λ z i. elim (in_middle us vs x z (subst (IsIn z) p.parts (to z (inr i)))) [
      | inl here ↦ absurd (a.0 z i (ap (λ (y : Entry). y.gtid) (sym here)))
      | inr other ↦ other
    ])
    (λ z i. elim (from z (subst (IsIn z) (sym p.parts) (from_rest us vs x z i))) [
      | inl here ↦ absurd (r.1 z i (ap (λ (y : Entry). y.gtid) (sym here)))
      | inr later ↦ later
    ]) in
    subst (IsPermutation (x ∷ xs)) (sym p.parts)
    (IsPermutation-trans (x ∷ xs) (x ∷ (us ++ vs)) (us ++ x ∷ vs) (IsPermutation-cons x xs (us ++ vs) rest) (IsPermutation-sym (us ++ x ∷ vs) (x ∷ (us ++ vs)) (IsPermutation-middle us x vs)))
