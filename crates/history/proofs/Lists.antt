-- Members of lists, and which comes before which.
use Rattle.std.proofs.Common.{◌≡◌, ◌≢◌, ◌⊎◌, Bool, true, false, cond, inl, inr, List, [], ◌∷◌, ◌++◌, refl, sym, ap, ◌∙◌}
use Rattle.std.specs.List.{filter, AllByRecursion}
use Rattle.std.proofs.lemmas.Bool.{or_cases, or_left, or_right}
use Rattle.lemmas.proofs.Tests.{not_both}
use Rattle.lemmas.proofs.SameGtid.{same_itself, same_is_equal}
use Rattle.gtid_text.specs.declared.Gtid.{Gtid}
use Rattle.gtid_text.specs.Gtids.{same_gtid}
use Rattle.history.specs.World.{Entry, IsIn, Precedes, AreDistinct}
use Rattle.history.proofs.Ordering.{not_both_ways}
use Rattle.history.proofs.Placing.{all_in}
use Rattle.history.proofs.Entries.{all_of}
use Rattle.history.specs.Histories.{has}

-- ---- whether a GTID is in a list

pub has_of : (es : List Entry) (e : Entry) → IsIn e es → has es e.0 ≡ true
has_of [] e i = absurd i
has_of (x ∷ es) e (inl same) = or_left (same_gtid e.0 x.0) (has es e.0) (ap (λ (y : Entry). same_gtid e.0 y.0) same ∙ same_itself e.0)
has_of (x ∷ es) e (inr later) = or_right (same_gtid e.0 x.0) (has es e.0) (has_of es e later)

pub found_at : (es : List Entry) (g : Gtid) → has es g ≡ true → (e : Entry) × IsIn e es × (g ≡ e.0)
found_at [] g h = cc
found_at (x ∷ es) g h = elim (or_cases (same_gtid g x.0) (has es g) h) [
  | inl here ↦ (x, inl refl, same_is_equal g x.0 here)
  | inr later ↦ let r = found_at es g later in (r.0, inr r.1, r.2)
]

-- ---- a list without doubles

pub no_loop : (es : List Entry) (e : Entry) → AreDistinct es → Precedes es e e → ⊥
no_loop es e d p = not_both_ways es e e d p p

-- equal GTIDs, the same entry
pub one_entry : (es : List Entry) (e f : Entry) → AreDistinct es → IsIn e es → IsIn f es → e.0 ≡ f.0 → e ≡ f
one_entry [] e f d i j s = absurd i
one_entry (x ∷ es) e f d (inl p) (inl q) s = sym p ∙ q
one_entry (x ∷ es) e f d (inl p) (inr q) s = absurd (all_in (λ (y : Entry). x.0 ≢ y.0) f es d.0 q (ap (λ (y : Entry). y.0) p ∙ s))
one_entry (x ∷ es) e f d (inr p) (inl q) s = absurd (all_in (λ (y : Entry). x.0 ≢ y.0) e es d.0 p (ap (λ (y : Entry). y.0) q ∙ sym s))
one_entry (x ∷ es) e f d (inr p) (inr q) s = one_entry es e f d.1 p q s

-- ---- a part of a list

in_part_by : (x e : Entry) (ys : List Entry) (b : Bool) → IsIn e (cond b (x ∷ ys) ys) → (x ≡ e) × (b ≡ true) ⊎ IsIn e ys
in_part_by x e ys true (inl same) = inl (same, refl)
in_part_by x e ys true (inr later) = inr later
in_part_by x e ys false i = inr i

pub in_part : (p : Entry → Bool) (es : List Entry) (e : Entry) → IsIn e (filter p es) → IsIn e es × (p e ≡ true)
in_part p [] e i = absurd i
in_part p (x ∷ es) e i = elim (in_part_by x e (filter p es) (p x) i) [
  | inl here ↦ (inl here.0, ap p (sym here.0) ∙ here.1)
  | inr later ↦ let r = in_part p es e later in (inr r.0, r.1)
]

into_part_by : (x e : Entry) (ys : List Entry) (b : Bool) → (x ≡ e) × (b ≡ true) ⊎ IsIn e ys → IsIn e (cond b (x ∷ ys) ys)
into_part_by x e ys true (inl here) = inl here.0
into_part_by x e ys true (inr later) = inr later
into_part_by x e ys false (inl here) = not_both false here.1 refl
into_part_by x e ys false (inr later) = later

pub into_part : (p : Entry → Bool) (es : List Entry) (e : Entry) → IsIn e es → p e ≡ true → IsIn e (filter p es)
into_part p [] e i y = absurd i
into_part p (x ∷ es) e (inl same) y = into_part_by x e (filter p es) (p x) (inl (same, ap p same ∙ y))
into_part p (x ∷ es) e (inr later) y = into_part_by x e (filter p es) (p x) (inr (into_part p es e later y))

before_in_part_by : (x e f : Entry) (ys : List Entry) (b : Bool) → ((x ≡ e) × IsIn f ys × (b ≡ true)) ⊎ Precedes ys e f → Precedes (cond b (x ∷ ys) ys) e f
before_in_part_by x e f ys true (inl here) = inl (here.0, here.1)
before_in_part_by x e f ys true (inr later) = inr later
before_in_part_by x e f ys false (inl here) = not_both false here.2 refl
before_in_part_by x e f ys false (inr later) = later

pub before_in_part : (p : Entry → Bool) (es : List Entry) (e f : Entry) → Precedes es e f → p e ≡ true → p f ≡ true → Precedes (filter p es) e f
before_in_part p [] e f i y z = absurd i
before_in_part p (x ∷ es) e f (inl here) y z = before_in_part_by x e f (filter p es) (p x) (inl (here.0, into_part p es f here.1 z, ap p here.0 ∙ y))
before_in_part p (x ∷ es) e f (inr later) y z = before_in_part_by x e f (filter p es) (p x) (inr (before_in_part p es e f later y z))

before_of_part_by : (x e f : Entry) (ys : List Entry) (b : Bool) → Precedes (cond b (x ∷ ys) ys) e f → ((x ≡ e) × IsIn f ys) ⊎ Precedes ys e f
before_of_part_by x e f ys true p = p
before_of_part_by x e f ys false p = inr p

pub before_of_part : (p : Entry → Bool) (es : List Entry) (e f : Entry) → Precedes (filter p es) e f → Precedes es e f
before_of_part p [] e f i = absurd i
before_of_part p (x ∷ es) e f i = elim (before_of_part_by x e f (filter p es) (p x) i) [
  | inl here ↦ inl (here.0, (in_part p es f here.1).0)
  | inr later ↦ inr (before_of_part p es e f later)
]

part_distinct_by : (x : Entry) (ys : List Entry) (b : Bool) → AllByRecursion (λ (f : Entry). x.0 ≢ f.0) ys → AreDistinct ys → AreDistinct (cond b (x ∷ ys) ys)
part_distinct_by x ys true h d = (h, d)
part_distinct_by x ys false h d = d

pub part_distinct : (p : Entry → Bool) (es : List Entry) → AreDistinct es → AreDistinct (filter p es)
part_distinct p [] d = tt
part_distinct p (x ∷ es) d = part_distinct_by x (filter p es) (p x)
    (all_of (λ (f : Entry). x.0 ≢ f.0) (filter p es) (λ f i. all_in (λ (y : Entry). x.0 ≢ y.0) f es d.0 (in_part p es f i).0))
    (part_distinct p es d.1)

-- ---- one list after another

pub in_front : (xs ys : List Entry) (e : Entry) → IsIn e xs → IsIn e (xs ++ ys)
in_front [] ys e i = absurd i
in_front (x ∷ xs) ys e (inl same) = inl same
in_front (x ∷ xs) ys e (inr later) = inr (in_front xs ys e later)

pub in_back : (xs ys : List Entry) (e : Entry) → IsIn e ys → IsIn e (xs ++ ys)
in_back [] ys e i = i
in_back (x ∷ xs) ys e i = inr (in_back xs ys e i)

pub in_either : (xs ys : List Entry) (e : Entry) → IsIn e (xs ++ ys) → IsIn e xs ⊎ IsIn e ys
in_either [] ys e i = inr i
in_either (x ∷ xs) ys e (inl same) = inl (inl same)
in_either (x ∷ xs) ys e (inr later) = elim (in_either xs ys e later) [ inl a ↦ inl (inr a) | inr b ↦ inr b ]

pub before_in_front : (xs ys : List Entry) (e f : Entry) → Precedes xs e f → Precedes (xs ++ ys) e f
before_in_front [] ys e f p = absurd p
before_in_front (x ∷ xs) ys e f (inl here) = inl (here.0, in_front xs ys f here.1)
before_in_front (x ∷ xs) ys e f (inr later) = inr (before_in_front xs ys e f later)

pub before_in_back : (xs ys : List Entry) (e f : Entry) → Precedes ys e f → Precedes (xs ++ ys) e f
before_in_back [] ys e f p = p
before_in_back (x ∷ xs) ys e f p = inr (before_in_back xs ys e f p)

pub before_across : (xs ys : List Entry) (e f : Entry) → IsIn e xs → IsIn f ys → Precedes (xs ++ ys) e f
before_across [] ys e f i j = absurd i
before_across (x ∷ xs) ys e f (inl same) j = inl (same, in_back xs ys f j)
before_across (x ∷ xs) ys e f (inr later) j = inr (before_across xs ys e f later j)

-- both in the first, or one in each, or both in the second
pub before_either : (xs ys : List Entry) (e f : Entry) → Precedes (xs ++ ys) e f → Precedes xs e f ⊎ ((IsIn e xs × IsIn f ys) ⊎ Precedes ys e f)
before_either [] ys e f p = inr (inr p)
before_either (x ∷ xs) ys e f (inl here) = elim (in_either xs ys f here.1) [ inl a ↦ inl (inl (here.0, a)) | inr b ↦ inr (inl (inl here.0, b)) ]
before_either (x ∷ xs) ys e f (inr later) = elim (before_either xs ys e f later) [
  | inl a ↦ inl (inr a)
  | inr r ↦ elim r [ inl b ↦ inr (inl (inr b.0, b.1)) | inr c ↦ inr (inr c) ]
]

pub distinct_both : (xs ys : List Entry) → AreDistinct xs → AreDistinct ys → ((e f : Entry) → IsIn e xs → IsIn f ys → e.0 ≢ f.0) → AreDistinct (xs ++ ys)
distinct_both [] ys d c apart = c
distinct_both (x ∷ xs) ys d c apart = (
  all_of (λ (f : Entry). x.0 ≢ f.0) (xs ++ ys) (λ f i. apart_from f (in_either xs ys f i)),
  distinct_both xs ys d.1 c (λ e f i j. apart e f (inr i) j),
)
  where
    apart_from : (f : Entry) → IsIn f xs ⊎ IsIn f ys → x.0 ≢ f.0
    apart_from f (inl i) = all_in (λ (y : Entry). x.0 ≢ y.0) f xs d.0 i
    apart_from f (inr j) = apart x f (inl refl) j
