-- The names and numbers of collations, as `information_schema.collations` of a server has them.
use Rattle.std.specs.Prelude.{ℕ, List, codes}
use Rattle.collations.specs.declared.collation.Collation.{Collation}
use Rattle.collations.specs.declared.collation.Collation.TheVariants as collations

-- the name that a server of today has for it
abbrev pub name_of : Collation → List ℕ
name_of collations.AsciiGeneralCi = codes "ascii_general_ci"
name_of collations.AsciiBin = codes "ascii_bin"
name_of collations.Latin1SwedishCi = codes "latin1_swedish_ci"
name_of collations.Latin1GeneralCi = codes "latin1_general_ci"
name_of collations.Latin1GeneralCs = codes "latin1_general_cs"
name_of collations.Latin1Bin = codes "latin1_bin"
name_of collations.Utf8mb3GeneralCi = codes "utf8mb3_general_ci"
name_of collations.Utf8mb3UnicodeCi = codes "utf8mb3_unicode_ci"
name_of collations.Utf8mb3Bin = codes "utf8mb3_bin"
name_of collations.Utf8mb4GeneralCi = codes "utf8mb4_general_ci"
name_of collations.Utf8mb4UnicodeCi = codes "utf8mb4_unicode_ci"
name_of collations.Utf8mb4Unicode520Ci = codes "utf8mb4_unicode_520_ci"
name_of collations.Utf8mb4Bin = codes "utf8mb4_bin"
name_of collations.Utf8mb4_0900AiCi = codes "utf8mb4_0900_ai_ci"
name_of collations.Utf8mb4_0900AsCs = codes "utf8mb4_0900_as_cs"
name_of collations.Utf8mb4_0900Bin = codes "utf8mb4_0900_bin"

-- its number
abbrev pub number_of : Collation → ℕ
number_of collations.AsciiGeneralCi = 11
number_of collations.AsciiBin = 65
number_of collations.Latin1SwedishCi = 8
number_of collations.Latin1GeneralCi = 48
number_of collations.Latin1GeneralCs = 49
number_of collations.Latin1Bin = 47
number_of collations.Utf8mb3GeneralCi = 33
number_of collations.Utf8mb3UnicodeCi = 192
number_of collations.Utf8mb3Bin = 83
number_of collations.Utf8mb4GeneralCi = 45
number_of collations.Utf8mb4UnicodeCi = 224
number_of collations.Utf8mb4Unicode520Ci = 246
number_of collations.Utf8mb4Bin = 46
number_of collations.Utf8mb4_0900AiCi = 255
number_of collations.Utf8mb4_0900AsCs = 278
number_of collations.Utf8mb4_0900Bin = 309
