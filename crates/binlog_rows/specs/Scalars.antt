-- The values of JSON that have no parts, by their binary form, as texts. None: the bytes are in no form, or the value's type has no text here.
use Rattle.std.specs.Prelude.{ℕ, zero, suc, ◌+◌, ◌-◌, ◌*◌, ◌/◌, ◌%◌, ◌^◌, ◌==◌, ◌||◌, nat_lt, List, [], ◌∷◌, ◌++◌, codes, decimal, Option, Some, None, option_map, if◌then◌else◌}
use Rattle.std.specs.List.{flat_map}
use Rattle.binlog_rows.specs.Numbers.{and_then, split, number_of}
use Rattle.binlog_rows.specs.Doubles.{double_text}

-- ---- strings

-- the last digit of a number in base 16
abbrev pub hex_digit : ℕ → ℕ
hex_digit n = if nat_lt (n % 16) 10 then 48 + n % 16 else 87 + n % 16

-- a byte in a string: behind a backslash stand a quote, a backslash and b, t, n, f, r for the bytes 8, 9, 10, 12, 13; the other bytes
-- below a blank are \u and four digits of base 16; all else stands as it is
unfoldable pub escaped : ℕ → List ℕ
escaped byte =
    if (byte == 34) || (byte == 92) then 92 ∷ byte ∷ []
    else if byte == 8 then codes "\\b"
    else if byte == 9 then codes "\\t"
    else if byte == 10 then codes "\\n"
    else if byte == 12 then codes "\\f"
    else if byte == 13 then codes "\\r"
    else if nat_lt byte 32 then codes "\\u00" ++ hex_digit (byte / 16) ∷ hex_digit byte ∷ []
    else byte ∷ []

-- a string between its quotes
abbrev pub string_text : List ℕ → List ℕ
string_text bytes = 34 ∷ (flat_map escaped bytes ++ 34 ∷ [])

-- a length, and what is behind it: in groups of 7 bits, lowest first, each but the last with its high bit set; there are at most so many
unfoldable pub length_at : ℕ → List ℕ → Option (ℕ × List ℕ)
length_at zero bytes = None
length_at (suc n) [] = None
length_at (suc n) (byte ∷ bytes) =
    if nat_lt byte 128 then Some (byte, bytes) else option_map (λ p. (byte - 128 + 128 * p.0, p.1)) (length_at n bytes)

-- a string behind its length
unfoldable pub string_at : List ℕ → Option (List ℕ)
string_at bytes = and_then (length_at 5 bytes) (λ p. option_map (λ q. string_text q.0) (split p.0 p.1))

-- ---- other values that have no parts

abbrev pub literal_text : ℕ → Option (List ℕ)
literal_text n =
    if n == 0 then Some (codes "null")
    else if n == 1 then Some (codes "true")
    else if n == 2 then Some (codes "false")
    else None

abbrev pub literal_at : List ℕ → Option (List ℕ)
literal_at bytes = and_then (number_of 1 bytes) (λ p. literal_text p.0)

-- two's complement, where half of the numbers are below 0
abbrev pub signed_text : ℕ → ℕ → List ℕ
signed_text half n = if nat_lt n half then decimal n else 45 ∷ decimal (half + half - n)

-- integers of so many bytes, without a sign and with one
abbrev pub unsigned_at : ℕ → List ℕ → Option (List ℕ)
unsigned_at width bytes = option_map (λ p. decimal p.0) (number_of width bytes)

abbrev pub signed_at : ℕ → ℕ → List ℕ → Option (List ℕ)
signed_at half width bytes = option_map (λ p. signed_text half p.0) (number_of width bytes)

abbrev pub double_at : List ℕ → Option (List ℕ)
double_at bytes = and_then (number_of 8 bytes) (λ p. double_text p.0)

-- the value at the front: 4 is a literal, 5 to 10 are integers of 2, 4 and 8 bytes, first with a sign and then without one, 11 is a double and
-- 12 a string; 15, a value of an SQL type, has no text here
unfoldable pub scalar_text : ℕ → List ℕ → Option (List ℕ)
scalar_text kind bytes =
    if kind == 4 then literal_at bytes
    else if kind == 5 then signed_at (2 ^ 15) 2 bytes
    else if kind == 6 then unsigned_at 2 bytes
    else if kind == 7 then signed_at (2 ^ 31) 4 bytes
    else if kind == 8 then unsigned_at 4 bytes
    else if kind == 9 then signed_at (2 ^ 63) 8 bytes
    else if kind == 10 then unsigned_at 8 bytes
    else if kind == 11 then double_at bytes
    else if kind == 12 then string_at bytes
    else None
