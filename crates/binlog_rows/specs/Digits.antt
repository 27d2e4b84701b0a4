-- Numbers and bits in digits of ASCII.
use Rattle.std.specs.Prelude.{ℕ, ◌+◌, ◌/◌, ◌%◌, ◌==◌, Bool, List, [], ◌∷◌, ◌++◌}

-- the last decimal digit of a number
abbrev pub digit : ℕ → ℕ
digit n = 48 + n % 10

-- its last two, and so on, with zeros before it
abbrev pub two_digits : ℕ → List ℕ
two_digits n = digit (n / 10) ∷ digit n ∷ []

abbrev pub four_digits : ℕ → List ℕ
four_digits n = two_digits (n / 100) ++ two_digits n

abbrev pub six_digits : ℕ → List ℕ
six_digits n = two_digits (n / 10000) ++ four_digits n

abbrev pub nine_digits : ℕ → List ℕ
nine_digits n = digit (n / 100000000) ∷ (four_digits (n / 10000) ++ four_digits n)

-- the digit 0
abbrev pub is_zero : ℕ → Bool
is_zero b = b == 48

-- the lowest bit of a number
abbrev pub bit : ℕ → ℕ
bit n = 48 + n % 2

-- the bits of a byte, the high one first
abbrev pub byte_digits : ℕ → List ℕ
byte_digits b =
    bit (b / 128) ∷ bit (b / 64) ∷ bit (b / 32) ∷ bit (b / 16) ∷ bit (b / 8) ∷ bit (b / 4) ∷ bit (b / 2) ∷ bit b ∷ []
