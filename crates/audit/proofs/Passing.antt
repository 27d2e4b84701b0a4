-- Searches that count, and searches one after another.
use Rattle.std.proofs.Common.{◌≡◌, ℕ, zero, suc, ◌+◌, true, false, List, [], ◌∷◌, Option, Some, None, refl, sym, ◌∙◌, arith}
use Rattle.std.specs.Prelude.{is_some}
use Rattle.world.specs.Search.{or_next, first_at}
use Rattle.audit.specs.Passing.{first_from}

shifted : (n i : ℕ) → (n + 1) + i ≡ n + suc i
shifted n i = omega arith

at_start : (n : ℕ) → n ≡ n + zero
at_start n = omega arith

from_at : {A B : Type 0} (f : ℕ → A → Option B) (n : ℕ) (xs : List A) → first_from f n xs ≡ first_at (λ i. f (n + i)) xs
from_at f n [] = refl
from_at f n (x ∷ xs) =
    let rest : first_from f (n + 1) xs ≡ first_at (λ i. f (n + suc i)) xs = from_at f (n + 1) xs ∙ (λ k. first_at (λ i. f (shifted n i k)) xs) in
    λ k. or_next (f (at_start n k) x) (rest k)

from_start : (i : ℕ) → zero + i ≡ i
from_start i = omega arith

pub first_from_start : {A B : Type 0} (f : ℕ → A → Option B) (xs : List A) → first_from f zero xs ≡ first_at f xs
first_from_start f xs = from_at f zero xs ∙ (λ k. first_at (λ i. f (from_start i k)) xs)

-- ---- one search and then another

pub stops_here : {B : Type 0} (o p : Option B) → is_some o ≡ true → or_next o p ≡ o
stops_here (Some x) p e = refl
stops_here None p e = cc

pub goes_on : {B : Type 0} (o p : Option B) → is_some o ≡ false → or_next o p ≡ p
goes_on (Some x) p e = cc
goes_on None p e = refl

-- ---- five searches one after another

module _ {B : Type 0} where
  abbrev in_turn : Option B → Option B → Option B → Option B → Option B → Option B
  in_turn a b c d e = or_next a (or_next b (or_next c (or_next d e)))

  pub by_first : (a b c d e : Option B) → is_some a ≡ true → a ≡ in_turn a b c d e
  by_first a b c d e t = sym (stops_here a _ t)

  pub by_second : (a b c d e : Option B) → is_some a ≡ false → is_some b ≡ true → b ≡ in_turn a b c d e
  by_second a b c d e t u = sym (goes_on a _ t ∙ stops_here b _ u)

  pub by_third : (a b c d e : Option B) → is_some a ≡ false → is_some b ≡ false → is_some c ≡ true → c ≡ in_turn a b c d e
  by_third a b c d e t u v = sym (goes_on a _ t ∙ goes_on b _ u ∙ stops_here c _ v)

  pub by_fourth : (a b c d e : Option B) → is_some a ≡ false → is_some b ≡ false → is_some c ≡ false → is_some d ≡ true → d ≡ in_turn a b c d e
  by_fourth a b c d e t u v w = sym (goes_on a _ t ∙ goes_on b _ u ∙ goes_on c _ v ∙ stops_here d _ w)

  pub by_fifth : (a b c d e : Option B) → is_some a ≡ false → is_some b ≡ false → is_some c ≡ false → is_some d ≡ false → e ≡ in_turn a b c d e
  by_fifth a b c d e t u v w = sym (goes_on a _ t ∙ goes_on b _ u ∙ goes_on c _ v ∙ goes_on d e w)
