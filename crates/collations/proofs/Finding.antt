-- Names and numbers are distinct.
use Rattle.std.specs.Prelude.{◌≡◌, refl, Some}
use Rattle.collations.specs.declared.collation.Collation.{Collation}
use Rattle.collations.specs.declared.collation.Collation.TheVariants as collations
use Rattle.collations.specs.Names.{name_of, number_of}
use Rattle.collations.specs.Finding.{collation_named, collation_numbered}

pub found_by_name : (c : Collation) → collation_named (name_of c) ≡ Some c
unfolding collation_named
found_by_name collations.AsciiGeneralCi = refl
found_by_name collations.AsciiBin = refl
found_by_name collations.Latin1SwedishCi = refl
found_by_name collations.Latin1GeneralCi = refl
found_by_name collations.Latin1GeneralCs = refl
found_by_name collations.Latin1Bin = refl
found_by_name collations.Utf8mb3GeneralCi = refl
found_by_name collations.Utf8mb3UnicodeCi = refl
found_by_name collations.Utf8mb3Bin = refl
found_by_name collations.Utf8mb4GeneralCi = refl
found_by_name collations.Utf8mb4UnicodeCi = refl
found_by_name collations.Utf8mb4Unicode520Ci = refl
found_by_name collations.Utf8mb4Bin = refl
found_by_name collations.Utf8mb4_0900AiCi = refl
found_by_name collations.Utf8mb4_0900AsCs = refl
found_by_name collations.Utf8mb4_0900Bin = refl

pub found_by_number : (c : Collation) → collation_numbered (number_of c) ≡ Some c
unfolding collation_numbered
found_by_number collations.AsciiGeneralCi = refl
found_by_number collations.AsciiBin = refl
found_by_number collations.Latin1SwedishCi = refl
found_by_number collations.Latin1GeneralCi = refl
found_by_number collations.Latin1GeneralCs = refl
found_by_number collations.Latin1Bin = refl
found_by_number collations.Utf8mb3GeneralCi = refl
found_by_number collations.Utf8mb3UnicodeCi = refl
found_by_number collations.Utf8mb3Bin = refl
found_by_number collations.Utf8mb4GeneralCi = refl
found_by_number collations.Utf8mb4UnicodeCi = refl
found_by_number collations.Utf8mb4Unicode520Ci = refl
found_by_number collations.Utf8mb4Bin = refl
found_by_number collations.Utf8mb4_0900AiCi = refl
found_by_number collations.Utf8mb4_0900AsCs = refl
found_by_number collations.Utf8mb4_0900Bin = refl
