-- Which collation a name or a number belongs to.
use Rattle.std.specs.Prelude.{ℕ, ◌==◌, List, [], ◌∷◌, Option, codes, if◌then◌else◌}
use Rattle.std.specs.List.{find}
use Rattle.std.specs.Str.{bytes_eq}
use Rattle.collations.specs.declared.collation.Collation.{Collation}
use Rattle.collations.specs.declared.collation.Collation.TheVariants as collations
use Rattle.collations.specs.Names.{name_of, number_of}

-- all of them
abbrev pub all_collations : List Collation
all_collations =
    collations.AsciiGeneralCi ∷ collations.AsciiBin
    ∷ collations.Latin1SwedishCi ∷ collations.Latin1GeneralCi ∷ collations.Latin1GeneralCs ∷ collations.Latin1Bin
    ∷ collations.Utf8mb3GeneralCi ∷ collations.Utf8mb3UnicodeCi ∷ collations.Utf8mb3Bin
    ∷ collations.Utf8mb4GeneralCi ∷ collations.Utf8mb4UnicodeCi ∷ collations.Utf8mb4Unicode520Ci ∷ collations.Utf8mb4Bin
    ∷ collations.Utf8mb4_0900AiCi ∷ collations.Utf8mb4_0900AsCs ∷ collations.Utf8mb4_0900Bin ∷ []

-- servers before 8.0.30 call utf8mb3 utf8
abbrev pub current_name : List ℕ → List ℕ
current_name name =
    if bytes_eq name (codes "utf8_general_ci") then codes "utf8mb3_general_ci"
    else if bytes_eq name (codes "utf8_unicode_ci") then codes "utf8mb3_unicode_ci"
    else if bytes_eq name (codes "utf8_bin") then codes "utf8mb3_bin"
    else name

-- the collation of a name, today's or an older server's
unfoldable pub collation_named : List ℕ → Option Collation
collation_named name = find (λ c. bytes_eq (name_of c) (current_name name)) all_collations

-- the collation of a number
unfoldable pub collation_numbered : ℕ → Option Collation
collation_numbered number = find (λ c. number_of c == number) all_collations
