-- One node of several changes, and what goes with each node.
use Rattle.std.proofs.Common.{◌≡◌, ◌≢◌, ℕ, cond, inl, inr, List, Some, refl, sym, ap, subst, eqb}
use Rattle.std.specs.Prelude.{slice_get, slice_set}
use Rattle.std.proofs.lemmas.Bool.{eq-eqb}
use Rattle.lemmas.proofs.Lists.{get_set_cases, get_set_from}
use Rattle.lemmas.proofs.Numbers.{eqb_other}

-- what goes with each number, with another at one of them
abbrev pub changed : {A : Type 0} → ℕ → A → (ℕ → A) → ℕ → A
changed j x f i = cond (eqb i j) x (f i)

pub changed_here : {A : Type 0} (j : ℕ) (x : A) (f : ℕ → A) → changed j x f j ≡ x
changed_here j x f = ap (λ b. cond b x (f j)) (eq-eqb j j refl)

pub changed_other : {A : Type 0} (i j : ℕ) (x : A) (f : ℕ → A) → i ≢ j → changed j x f i ≡ f i
changed_other i j x f n = ap (λ b. cond b x (f i)) (eqb_other i j n)

pub set_other : {A : Type 0} (xs : List A) (i j : ℕ) (x v : A) → i ≢ j → slice_get xs i ≡ Some x → slice_get (slice_set xs j v) i ≡ Some x
set_other xs i j x v n e = elim (get_set_from xs j v i x e) [ inl same ↦ same | inr at ↦ absurd (n at.0) ]

-- what is asked of each element, with what goes with its number, after one of them changed
pub all_after : {A B : Type 0} (P : ℕ → B → A → Type 0) (xs : List A) (j : ℕ) (v : A) (b : B) (f : ℕ → B) → ((i : ℕ) (x : A) → slice_get xs i ≡ Some x → P i (f i) x) → P j b v
    → (i : ℕ) (x : A) → slice_get (slice_set xs j v) i ≡ Some x → P i (changed j b f i) x
all_after {A} {B} P xs j v b f old new i x e =
    elim (get_set_cases xs j v i x e) [
      | inl here ↦ subst (P i (changed j b f i)) here.1 (subst (λ (n : ℕ). P n (changed j b f n) v) (sym here.0) (subst (λ (y : B). P j y v) (sym (changed_here j b f)) new))
      | inr other ↦ subst (λ (y : B). P i y x) (sym (changed_other i j b f other.0)) (old i x other.1)
    ]
