-- What texts weigh. Two texts are equal to a server by a collation if and only if they weigh the same.
use Rattle.std.specs.Prelude.{ℕ, ◌-◌, ◌==◌, List, ◌∷◌, ◌++◌, take, length, Option, Some, None, encode_utf8_all}
use Rattle.std.specs.List.{flat_map, suffix_len}
use Rattle.std.specs.Int.{bytes_high_first}
use Rattle.std.specs.Option.{option_map}
use Rattle.collation_weights.specs.Characters.{characters}
use Rattle.collation_weights.specs.Levels.{level}
use Rattle.collation_weights.specs.declared.character_set.CharacterSet.{CharacterSet}
use Rattle.collation_weights.specs.declared.character_set.CharacterSet.TheVariants as sets
use Rattle.collation_weights.specs.declared.tables.WeightTable.{WeightTable}
use Rattle.collation_weights.specs.declared.tables.WeightTable.TheVariants as tables
use Rattle.collations.specs.declared.collation.Collation.{Collation}
use Rattle.collations.specs.declared.collation.Collation.TheVariants as collations

-- its name begins with it
abbrev pub character_set_of : Collation → CharacterSet
character_set_of collations.AsciiGeneralCi = sets.Ascii
character_set_of collations.AsciiBin = sets.Ascii
character_set_of collations.Latin1SwedishCi = sets.Latin1
character_set_of collations.Latin1GeneralCi = sets.Latin1
character_set_of collations.Latin1GeneralCs = sets.Latin1
character_set_of collations.Latin1Bin = sets.Latin1
character_set_of collations.Utf8mb3GeneralCi = sets.Utf8mb3
character_set_of collations.Utf8mb3UnicodeCi = sets.Utf8mb3
character_set_of collations.Utf8mb3Bin = sets.Utf8mb3
character_set_of collations.Utf8mb4GeneralCi = sets.Utf8mb4
character_set_of collations.Utf8mb4UnicodeCi = sets.Utf8mb4
character_set_of collations.Utf8mb4Unicode520Ci = sets.Utf8mb4
character_set_of collations.Utf8mb4Bin = sets.Utf8mb4
character_set_of collations.Utf8mb4_0900AiCi = sets.Utf8mb4
character_set_of collations.Utf8mb4_0900AsCs = sets.Utf8mb4
character_set_of collations.Utf8mb4_0900Bin = sets.Utf8mb4

-- the table of its weights, or of the first of its levels
abbrev pub table_of : Collation → WeightTable
table_of collations.AsciiGeneralCi = tables.Ascii
table_of collations.AsciiBin = tables.CodePoints
table_of collations.Latin1SwedishCi = tables.Latin1Swedish
table_of collations.Latin1GeneralCi = tables.Latin1GeneralCi
table_of collations.Latin1GeneralCs = tables.Latin1GeneralCs
table_of collations.Latin1Bin = tables.CodePoints
table_of collations.Utf8mb3GeneralCi = tables.General
table_of collations.Utf8mb3UnicodeCi = tables.Uca400
table_of collations.Utf8mb3Bin = tables.CodePoints
table_of collations.Utf8mb4GeneralCi = tables.General
table_of collations.Utf8mb4UnicodeCi = tables.Uca400
table_of collations.Utf8mb4Unicode520Ci = tables.Uca520
table_of collations.Utf8mb4Bin = tables.CodePoints
table_of collations.Utf8mb4_0900AiCi = tables.Uca900Primary
table_of collations.Utf8mb4_0900AsCs = tables.Uca900Primary
table_of collations.Utf8mb4_0900Bin = tables.CodePoints

-- the weights of characters, as numbers; a weight 0 is between two levels
abbrev pub numbers_of : Collation → List ℕ → List ℕ
numbers_of collations.Utf8mb4_0900AsCs points =
    level tables.Uca900Primary points ++ 0 ∷ level tables.Uca900Secondary points ++ 0 ∷ level tables.Uca900Tertiary points
numbers_of collation points = level (table_of collation) points

-- what a blank weighs, where blanks at the end don't count (PAD SPACE)
abbrev pub blank_of : Collation → Option ℕ
blank_of collations.AsciiGeneralCi = Some 0x20
blank_of collations.AsciiBin = Some 0x20
blank_of collations.Latin1SwedishCi = Some 0x20
blank_of collations.Latin1GeneralCi = Some 0x20
blank_of collations.Latin1GeneralCs = Some 0x20
blank_of collations.Latin1Bin = Some 0x20
blank_of collations.Utf8mb3GeneralCi = Some 0x20
blank_of collations.Utf8mb3UnicodeCi = Some 0x0209
blank_of collations.Utf8mb3Bin = Some 0x20
blank_of collations.Utf8mb4GeneralCi = Some 0x20
blank_of collations.Utf8mb4UnicodeCi = Some 0x0209
blank_of collations.Utf8mb4Unicode520Ci = Some 0x020A
blank_of collations.Utf8mb4Bin = Some 0x20
blank_of collations.Utf8mb4_0900AiCi = None
blank_of collations.Utf8mb4_0900AsCs = None
blank_of collations.Utf8mb4_0900Bin = None

-- weights without those of a blank at the end
unfoldable pub without_blanks : Option ℕ → List ℕ → List ℕ
without_blanks None weights = weights
without_blanks (Some blank) weights = take (length weights - suffix_len (λ w. w == blank) weights) weights

-- how many bytes a weight has
abbrev pub width_of : Collation → ℕ
width_of collations.AsciiGeneralCi = 1
width_of collations.AsciiBin = 1
width_of collations.Latin1SwedishCi = 1
width_of collations.Latin1GeneralCi = 1
width_of collations.Latin1GeneralCs = 1
width_of collations.Latin1Bin = 1
width_of collations.Utf8mb4Bin = 3
width_of collation = 2

-- what characters weigh, as bytes, the high one of each weight first; by utf8mb4_0900_bin that is their UTF-8
abbrev pub weights_of : Collation → List ℕ → List ℕ
weights_of collations.Utf8mb4_0900Bin points = encode_utf8_all points
weights_of collation points =
    flat_map (bytes_high_first (width_of collation)) (without_blanks (blank_of collation) (numbers_of collation points))

-- what a text weighs; none, where the bytes are no text
unfoldable pub weights : Collation → List ℕ → Option (List ℕ)
weights collation bytes = option_map (weights_of collation) (characters (character_set_of collation) bytes)
