-- How a place among cells, or none, is kept in one number.
use Rattle.std.specs.Prelude.{◌≡◌, ℕ, zero, suc, Option, Some, None, refl}

abbrev pub place_of : ℕ → Option ℕ
place_of zero = None
place_of (suc n) = Some n

abbrev pub code_of : Option ℕ → ℕ
code_of None = zero
code_of (Some n) = suc n

pub code_of_place : (n : ℕ) → code_of (place_of n) ≡ n
code_of_place zero = refl
code_of_place (suc n) = refl

-- the most cells that a pool may have
abbrev pub most_cells : ℕ
most_cells = 4294967294
