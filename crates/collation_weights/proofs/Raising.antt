-- The last of weights is raised.
use Rattle.std.proofs.Common.{◌≡◌, refl, ap, ◌∙◌, ℕ, ◌+◌, List, [], ◌∷◌, ◌++◌, length, arith}
use Rattle.std.specs.List.{IsLastAndRest}
use Rattle.collation_weights.specs.Rows.{raised}

raised_last : (before : List ℕ) (last n : ℕ) → raised (before ++ last ∷ []) n ≡ before ++ (last + n) ∷ []
unfolding raised
raised_last [] last n = refl
raised_last (w ∷ []) last n = refl
raised_last (v ∷ w ∷ before) last n = ap (λ ws. v ∷ ws) (raised_last (w ∷ before) last n)

pub raised_of_last : (weights before : List ℕ) (last n : ℕ) → IsLastAndRest weights last before → raised weights n ≡ before ++ (last + n) ∷ []
raised_of_last weights before last n is = ap (λ ws. raised ws n) is.0 ∙ raised_last before last n

pub raised_of_none : (weights : List ℕ) (n : ℕ) → length weights ≡ 0 → raised weights n ≡ []
unfolding raised
raised_of_none [] n none = refl
raised_of_none (w ∷ weights) n none = absurd (omega (arith, none))

pub raised_zero : (weights : List ℕ) → raised weights 0 ≡ weights
unfolding raised
raised_zero [] = refl
raised_zero (w ∷ []) = ap (λ v. v ∷ []) (omega arith)
raised_zero (v ∷ w ∷ weights) = ap (λ ws. v ∷ ws) (raised_zero (w ∷ weights))
