-- Doubles of JSON, by their 64 bits, as the decimals that a server prints: with the fewest digits behind the point that read as the number, one
-- at least. None: numbers that a server prints with an exponent, those below 2^-48, and those that need more than 22 digits behind the point.
use Rattle.std.specs.Prelude.{ℕ, zero, suc, ◌+◌, ◌-◌, ◌*◌, ◌/◌, ◌%◌, ◌^◌, ◌==◌, ◌&&◌, nat_lt, nat_le, List, [], ◌∷◌, ◌++◌, drop, codes, decimal, Option, Some, None, if◌then◌else◌}
use Rattle.binlog_rows.specs.Texts.{then_text}

-- the whole number that is nearest to n / d, of two the even one
abbrev pub nearest : ℕ → ℕ → ℕ
nearest n d =
    if nat_lt (2 * (n % d)) d then n / d
    else if nat_lt d (2 * (n % d)) then n / d + 1
    else n / d + n / d % 2

-- how far n / d is from it, in parts of 1 / d
abbrev pub distance : ℕ → ℕ → ℕ
distance n d = if nat_lt (2 * (n % d)) d then n % d else d - n % d

-- the decimal n / unit, where unit is a power of 10: behind the point are the digits of unit + n % unit but for its first one, a 1
abbrev pub point_text : ℕ → ℕ → List ℕ
point_text unit n = decimal (n / unit) ++ 46 ∷ drop 1 (decimal (unit + n % unit))

-- the double m / d, where the next ones are 1 / d away (below a power of 2 half of that), by the parts of 1 / unit that are nearest to it: they
-- read as the double if they are nearer than half of 1 / d. Up to so many numbers of digits are tried, the first of them that of unit.
unfoldable pub shortest_text : ℕ → ℕ → ℕ → ℕ → Option (List ℕ)
shortest_text zero unit m d = None
shortest_text (suc n) unit m d =
    if nat_lt (2 * distance (m * unit) d) unit then Some (point_text unit (nearest (m * unit) d)) else shortest_text n (unit * 10) m d

-- a bit of the sign, 11 of the exponent, and 52 of the fraction: 2^52 and the fraction, by 2 ^ (1075 - exponent)
abbrev pub exponent : ℕ → ℕ
exponent bits = bits % 2 ^ 63 / 2 ^ 52

abbrev pub mantissa : ℕ → ℕ
mantissa bits = 2 ^ 52 + bits % 2 ^ 63 % 2 ^ 52

abbrev pub below_limit : ℕ → ℕ → Option (List ℕ)
below_limit m d = if nat_lt (m / d) (10 ^ 15) then shortest_text 22 10 m d else None

unfoldable pub magnitude_text : ℕ → Option (List ℕ)
magnitude_text bits =
    if bits % 2 ^ 63 == 0 then Some (codes "0.0")
    else if nat_le 975 (exponent bits) && nat_le (exponent bits) 1072 then below_limit (mantissa bits) (2 ^ (1075 - exponent bits))
    else None

abbrev pub minus_text : ℕ → List ℕ
minus_text bits = if nat_lt bits (2 ^ 63) then [] else 45 ∷ []

abbrev pub double_text : ℕ → Option (List ℕ)
double_text bits = then_text (Some (minus_text bits)) (magnitude_text bits)
