-- Two lists of which only one goes on.
use Rattle.std.proofs.Common.{◌≡◌, ℕ, suc, ◌<◌, Bool, List, [], ◌∷◌, map, length, Some, refl, ap, arith, Bor}
use Rattle.fault_places.specs.Differences.{first_difference}

module _ {A : Type 0} (same : A → A → Bool) where
  pub only_first : (n : ℕ) (xs ys : List A) → 0 < length xs → length ys ≡ 0 → Some n ≡ first_difference same n xs ys
  only_first n [] ys h k = absurd (omega (arith, h))
  only_first n (x ∷ xs) [] h k = refl
  only_first n (x ∷ xs) (y ∷ ys) h k = absurd (omega (arith, k))

  pub only_second : (n : ℕ) (xs ys : List A) → length xs ≡ 0 → 0 < length ys → Some n ≡ first_difference same n xs ys
  only_second n xs [] h k = absurd (omega (arith, k))
  only_second n [] (y ∷ ys) h k = refl
  only_second n (x ∷ xs) (y ∷ ys) h k = absurd (omega (arith, h))

-- what references to texts point to
abbrev pub pointed : List (Bor (List ℕ)) → List (List ℕ)
pointed xs = map (λ x. x.now) xs

pub length-pointed : (xs : List (Bor (List ℕ))) → length (pointed xs) ≡ length xs
length-pointed [] = refl
length-pointed (x ∷ xs) = ap suc (length-pointed xs)
