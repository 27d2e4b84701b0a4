-- What comes before what in a list.
use Rattle.std.proofs.Common.{◌≡◌, ◌≢◌, ◌⊎◌, inl, inr, List, [], ◌∷◌, sym, ap, ◌∙◌, subst}
use Rattle.std.specs.List.{AllByRecursion}
use Rattle.history.specs.World.{Entry, IsIn, Precedes, AreDistinct}
use Rattle.history.proofs.Placing.{all_in}

pub first_in : (es : List Entry) (e f : Entry) → Precedes es e f → IsIn e es
first_in [] e f p = absurd p
first_in (x ∷ es) e f (inl here) = inl here.0
first_in (x ∷ es) e f (inr later) = inr (first_in es e f later)

pub second_in : (es : List Entry) (e f : Entry) → Precedes es e f → IsIn f es
second_in [] e f p = absurd p
second_in (x ∷ es) e f (inl here) = inr here.1
second_in (x ∷ es) e f (inr later) = inr (second_in es e f later)

-- each with each later one
abbrev pub AllPairs : (Entry → Entry → Type 0) → List Entry → Type 0
AllPairs R [] = Unit {0}
AllPairs R (x ∷ es) = AllByRecursion (R x) es × AllPairs R es

pub each_pair : (R : Entry → Entry → Type 0) (es : List Entry) → AllPairs R es → (e f : Entry) → Precedes es e f → R e f
each_pair R [] h e f p = absurd p
each_pair R (x ∷ es) h e f (inl here) = subst (λ (y : Entry). R y f) here.0 (all_in (R x) f es h.0 here.1)
each_pair R (x ∷ es) h e f (inr later) = each_pair R es h.1 e f later

deeper : (x e f : Entry) (es : List Entry) → (e ≡ f) ⊎ (Precedes es e f ⊎ Precedes es f e) → (e ≡ f) ⊎ (Precedes (x ∷ es) e f ⊎ Precedes (x ∷ es) f e)
deeper x e f es (inl same) = inl same
deeper x e f es (inr (inl one)) = inr (inl (inr one))
deeper x e f es (inr (inr other)) = inr (inr (inr other))

-- of two that are in a list, one comes before the other, or they are the same
pub either_first : (es : List Entry) (e f : Entry) → IsIn e es → IsIn f es → (e ≡ f) ⊎ (Precedes es e f ⊎ Precedes es f e)
either_first [] e f p q = absurd p
either_first (x ∷ es) e f (inl p) (inl q) = inl (sym p ∙ q)
either_first (x ∷ es) e f (inl p) (inr q) = inr (inl (inl (p, q)))
either_first (x ∷ es) e f (inr p) (inl q) = inr (inr (inl (q, p)))
either_first (x ∷ es) e f (inr p) (inr q) = deeper x e f es (either_first es e f p q)

-- in a list without doubles, of two neither comes before the other and after it
pub not_both_ways : (es : List Entry) (e f : Entry) → AreDistinct es → Precedes es e f → Precedes es f e → ⊥
not_both_ways [] e f d p q = absurd p
not_both_ways (x ∷ es) e f d (inl p) (inl q) = all_in (λ (y : Entry). x.0 ≢ y.0) f es d.0 p.1 (ap (λ (y : Entry). y.0) q.0)
not_both_ways (x ∷ es) e f d (inl p) (inr q) = all_in (λ (y : Entry). x.0 ≢ y.0) e es d.0 (second_in es f e q) (ap (λ (y : Entry). y.0) p.0)
not_both_ways (x ∷ es) e f d (inr p) (inl q) = all_in (λ (y : Entry). x.0 ≢ y.0) f es d.0 (second_in es e f p) (ap (λ (y : Entry). y.0) q.0)
not_both_ways (x ∷ es) e f d (inr p) (inr q) = not_both_ways es e f d.1 p q

-- in a list without doubles, what comes before another has another GTID
pub before_apart : (es : List Entry) (e f : Entry) → AreDistinct es → Precedes es e f → e.0 ≢ f.0
before_apart [] e f d p s = absurd p
before_apart (x ∷ es) e f d (inl here) s = all_in (λ (y : Entry). x.0 ≢ y.0) f es d.0 here.1 (ap (λ (y : Entry). y.0) here.0 ∙ s)
before_apart (x ∷ es) e f d (inr later) s = before_apart es e f d.1 later s
