-- What a server compares of a column's bytes in a key.
use Rattle.std.specs.Prelude.{ℕ, ◌-◌, ◌==◌, ◌||◌, List, [], ◌∷◌, length, take, Option, Some, None, option_and_then, if◌then◌else◌}
use Rattle.std.specs.List.{suffix_len}
use Rattle.std.specs.Str.{bytes_eq}
use Rattle.collations.specs.declared.collation.Collation.{Collation}
use Rattle.collation_weights.specs.Prefixes.{first_characters}
use Rattle.collation_weights.specs.Weights.{weights}
use Rattle.derived_columns.specs.declared.column.KeyComparison.{KeyComparison}
use Rattle.derived_columns.specs.declared.column.KeyComparison.TheVariants.{Text, FirstCharacters, FirstBytes, FixedCharacters, FixedBytes, Float}

-- what the first characters of a text weigh
abbrev pub first_weights : Collation → ℕ → List ℕ → Option (List ℕ)
first_weights collation count text = option_and_then (weights collation) (first_characters collation count text)

-- bytes without those at the end that are this one
abbrev pub without_end : ℕ → List ℕ → List ℕ
without_end byte bytes = take (length bytes - suffix_len (λ b. b == byte) bytes) bytes

-- what the first characters of a CHAR weigh: a server fills it up with blanks, so those at the end are no characters of its own
abbrev pub fixed_weights : Collation → ℕ → List ℕ → Option (List ℕ)
fixed_weights collation count text = option_and_then (λ characters. weights collation (without_end 32 characters)) (first_characters collation count text)

-- the first bytes of a BINARY, which a server fills up with zeros
abbrev pub fixed_bytes : ℕ → List ℕ → List ℕ
fixed_bytes count bytes = without_end 0 (take count bytes)

-- 0 and -0 as FLOAT and as DOUBLE
abbrev pub zero_float : List ℕ
zero_float = 0 ∷ 0 ∷ 0 ∷ 0 ∷ []

abbrev pub negative_zero_float : List ℕ
negative_zero_float = 128 ∷ 0 ∷ 0 ∷ 0 ∷ []

abbrev pub zero_double : List ℕ
zero_double = 0 ∷ 0 ∷ 0 ∷ 0 ∷ 0 ∷ 0 ∷ 0 ∷ 0 ∷ []

abbrev pub negative_zero_double : List ℕ
negative_zero_double = 128 ∷ 0 ∷ 0 ∷ 0 ∷ 0 ∷ 0 ∷ 0 ∷ 0 ∷ []

-- the bytes of a number of FLOAT or DOUBLE, which are 4 or 8; those of -0 are those of 0
abbrev pub float_bytes : List ℕ → Option (List ℕ)
float_bytes bytes =
    if bytes_eq bytes negative_zero_float then Some zero_float
    else if bytes_eq bytes negative_zero_double then Some zero_double
    else if (length bytes == 4) || (length bytes == 8) then Some bytes
    else None

-- what is compared of the bytes of a value, if they are bytes of such a column
unfoldable pub compared_bytes : KeyComparison → List ℕ → Option (List ℕ)
compared_bytes (Text collation) text = weights collation text
compared_bytes (FirstCharacters collation count) text = first_weights collation count text
compared_bytes (FirstBytes count) bytes = Some (take count bytes)
compared_bytes (FixedCharacters collation count) text = fixed_weights collation count text
compared_bytes (FixedBytes count) bytes = Some (fixed_bytes count bytes)
compared_bytes Float bytes = float_bytes bytes
