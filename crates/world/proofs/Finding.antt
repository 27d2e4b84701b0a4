-- Searches.
use Rattle.std.proofs.Common.{◌≡◌, ℕ, zero, suc, ◌<◌, Bool, true, false, ◌⊎◌, inl, inr, List, [], ◌∷◌, Option, Some, None, refl, sym, ap, ◌∙◌, arith}
use Rattle.std.specs.Prelude.{slice_get}
use Rattle.world.specs.Search.{or_next, when, first_at}
use Rattle.std.proofs.lemmas.Option.{same_Some}
use Rattle.lemmas.proofs.Options.{none_some}

pub next_none : {B : Type 0} (o p : Option B) → or_next o p ≡ None → (o ≡ None) × (p ≡ None)
next_none (Some x) p e = cc
next_none None p e = (refl, e)

pub none_next : {B : Type 0} (o p : Option B) → o ≡ None → p ≡ None → or_next o p ≡ None
none_next (Some x) p e f = cc
none_next None p e f = f

pub next_some : {B : Type 0} (o p : Option B) (y : B) → or_next o p ≡ Some y → (o ≡ Some y) ⊎ ((o ≡ None) × (p ≡ Some y))
next_some (Some x) p y e = inl e
next_some None p y e = inr (refl, e)

pub when_none : {B : Type 0} (b : Bool) (y : B) → when b y ≡ None → b ≡ false
when_none true y e = cc
when_none false y e = refl

pub none_when : {B : Type 0} (b : Bool) (y : B) → b ≡ false → when b y ≡ None
none_when true y e = cc
none_when false y e = refl

pub when_some : {B : Type 0} (b : Bool) (y z : B) → when b y ≡ Some z → (b ≡ true) × (y ≡ z)
when_some true y z e = (refl, same_Some y z e)
when_some false y z e = none_some z e

-- nothing is found: f gives nothing of any element
pub first_none : {A B : Type 0} (f : ℕ → A → Option B) (xs : List A) → first_at f xs ≡ None → (i : ℕ) (x : A) → slice_get xs i ≡ Some x → f i x ≡ None
first_none f [] e i x h = none_some x h
first_none f (y ∷ xs) e zero x h = ap (f zero) (sym (same_Some y x h)) ∙ (next_none (f zero y) (first_at (λ i. f (suc i)) xs) e).0
first_none f (y ∷ xs) e (suc i) x h = first_none (λ j. f (suc j)) xs (next_none (f zero y) (first_at (λ j. f (suc j)) xs) e).1 i x h

pub none_first : {A B : Type 0} (f : ℕ → A → Option B) (xs : List A) → ((i : ℕ) (x : A) → slice_get xs i ≡ Some x → f i x ≡ None) → first_at f xs ≡ None
none_first f [] h = refl
none_first f (y ∷ xs) h = none_next (f zero y) (first_at (λ i. f (suc i)) xs) (h zero y refl) (none_first (λ i. f (suc i)) xs (λ i x e. h (suc i) x e))

-- what is found: f gives it of an element, and nothing of those before
pub record IsFirst {A B : Type 0} (f : ℕ → A → Option B) (xs : List A) (v : B) : Type 0 where
  pub place : ℕ
  pub element : A
  pub there : slice_get xs place ≡ Some element
  pub gives : f place element ≡ Some v
  pub earlier : (j : ℕ) (y : A) → j < place → slice_get xs j ≡ Some y → f j y ≡ None

pub first_some : {A B : Type 0} (f : ℕ → A → Option B) (xs : List A) (v : B) → first_at f xs ≡ Some v → IsFirst f xs v
first_some f [] v e = none_some v e
first_some f (y ∷ xs) v e = elim (next_some (f zero y) (first_at (λ i. f (suc i)) xs) v e) [
  | inl here ↦ record { place = zero; element = y; there = refl; gives = here; earlier = λ j z l i. absurd (omega arith) }
  | inr later ↦
      let r = first_some (λ i. f (suc i)) xs v later.1 in
      record { place = suc r.place; element = r.element; there = r.there; gives = r.gives; earlier = before f y xs r.place later.0 r.earlier }
]
  where
    before : {A B : Type 0} (f : ℕ → A → Option B) (y : A) (xs : List A) (p : ℕ) → f zero y ≡ None → ((j : ℕ) (z : A) → j < p → slice_get xs j ≡ Some z → f (suc j) z ≡ None) → (j : ℕ) (z : A) → j < suc p → slice_get (y ∷ xs) j ≡ Some z → f j z ≡ None
    before f y xs p n h zero z l i = ap (f zero) (sym (same_Some y z i)) ∙ n
    before f y xs p n h (suc j) z l i = h j z (omega arith) i
