-- The place of the last element that passes a test.
use Rattle.std.proofs.Common.{◌≡◌, ◌<◌, ◌+◌, ◌||◌, ℕ, Bool, true, false, cond, List, [], ◌∷◌, length, max, refl, sym, ap, ◌∙◌, arith}
use Rattle.std.specs.List.{list_any}
use Rattle.logical_timestamps.specs.Timestamps.{last_place}

below : (b : Bool) (place found : ℕ) → found < place → cond b place found < place + 1
below true place found h = omega arith
below false place found h = omega arith

-- it is one of these places, where what was found before is below them
pub last_place_below : {A : Type 0} (p : A → Bool) (place found : ℕ) (xs : List A) → found < place → last_place p place found xs < place + length xs
last_place_below p place found [] h = omega (arith, h)
last_place_below p place found (x ∷ xs) h =
    let rest = last_place_below p (place + 1) (cond (p x) place found) xs (below (p x) place found h) in
    omega (arith, rest)

pub no_place : {A : Type 0} (place found : ℕ) (xs : List A) → last_place (λ x. false) place found xs ≡ found
no_place place found [] = refl
no_place place found (x ∷ xs) = no_place (place + 1) found xs

later : (u v : Bool) (a b place : ℕ) → a < place → b < place → cond (u || v) place (max a b) ≡ max (cond u place a) (cond v place b)
later true true a b place h k = omega arith
later true false a b place h k = omega arith
later false true a b place h k = omega arith
later false false a b place h k = refl

-- of two tests the later place counts
pub either_place : {A : Type 0} (p q : A → Bool) (place a b : ℕ) (xs : List A) → a < place → b < place
    → last_place (λ x. p x || q x) place (max a b) xs ≡ max (last_place p place a xs) (last_place q place b xs)
either_place p q place a b [] h k = refl
either_place p q place a b (x ∷ xs) h k =
    ap (λ n. last_place (λ y. p y || q y) (place + 1) n xs) (later (p x) (q x) a b place h k)
    ∙ either_place p q (place + 1) (cond (p x) place a) (cond (q x) place b) xs (below (p x) place a h) (below (q x) place b k)

-- the greatest number of these
abbrev pub latest : {K : Type 0} → (K → ℕ) → List K → ℕ
latest f [] = 0
latest f (k ∷ ks) = max (f k) (latest f ks)

-- of many tests the latest place counts
pub any_place : {A K : Type 0} (t : A → K → Bool) (place : ℕ) (xs : List A) (ks : List K) → 0 < place
    → latest (λ k. last_place (λ x. t x k) place 0 xs) ks ≡ last_place (λ x. list_any (t x) ks) place 0 xs
any_place t place xs [] h = sym (no_place place 0 xs)
any_place t place xs (k ∷ ks) h =
    ap (max (last_place (λ x. t x k) place 0 xs)) (any_place t place xs ks h)
    ∙ sym (either_place (λ x. t x k) (λ x. list_any (t x) ks) place 0 0 xs h h)
