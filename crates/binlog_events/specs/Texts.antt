-- How bytes are printed: texts, and names.
use Rattle.std.specs.Prelude.{ℕ, ◌+◌, ◌/◌, ◌%◌, ◌==◌, ◌||◌, ◌&&◌, nat_le, nat_lt, Bool, List, [], ◌∷◌, ◌++◌, length, take, Option, Some, None, codes, if◌then◌else◌}
use Rattle.std.specs.List.{flat_map}

-- the digit of a number below 16
abbrev pub hex_digit : ℕ → ℕ
hex_digit n = if nat_lt n 10 then 48 + n else 87 + n

-- ---- a text

-- what is no printed character of ASCII is shown by its two hexadecimal digits
abbrev pub shown_byte : ℕ → List ℕ
shown_byte b = if nat_le 32 b && nat_lt b 127 then b ∷ [] else 92 ∷ 120 ∷ hex_digit (b / 16) ∷ hex_digit (b % 16) ∷ []

-- the first 120 bytes of a text
abbrev pub shown : List ℕ → List ℕ
shown text = flat_map shown_byte (take 120 text)

-- ---- a name

abbrev pub is_letter : ℕ → Bool
is_letter b = (nat_le 65 b && nat_le b 90) || (nat_le 97 b && nat_le b 122)

-- a letter, a digit, `_`, `$` or `-`
abbrev pub is_plain : ℕ → Bool
is_plain b = is_letter b || ((nat_le 48 b && nat_le b 57) || ((b == 95) || ((b == 36) || (b == 45))))

-- each other byte is `%` and two hexadecimal digits
abbrev pub escaped_byte : ℕ → List ℕ
escaped_byte b = if is_plain b then b ∷ [] else 37 ∷ hex_digit (b / 16) ∷ hex_digit (b % 16) ∷ []

abbrev pub escaped : List ℕ → List ℕ
escaped name = flat_map escaped_byte name

-- a table's name is that of its database, a dot, and its own
abbrev pub table_name : List ℕ → List ℕ → List ℕ
table_name database table = escaped database ++ 46 ∷ escaped table

-- ---- what a body says, on its line

-- the body is not in the form of its kind
abbrev pub malformed : List ℕ
malformed = codes " malformed"

-- a text, where there is one
abbrev pub text_said : Option (List ℕ) → List ℕ
text_said None = malformed
text_said (Some text) = if length text == 0 then [] else 32 ∷ shown text
