-- The rows of each table rise, and have their weights within it.
use Rattle.std.specs.Prelude.{◌≡◌, refl, true}
use Rattle.collation_weights.specs.Rows.{are_rising, are_within}
use Rattle.collation_weights.specs.Tables.{rows_of, weights_of}
use Rattle.collation_weights.specs.declared.tables.WeightTable.{WeightTable}
use Rattle.collation_weights.specs.declared.tables.WeightTable.TheVariants as tables

pub rise : (table : WeightTable) → are_rising (rows_of table) ≡ true
unfolding rows_of
rise tables.CodePoints = refl
rise tables.Ascii = refl
rise tables.Latin1Swedish = refl
rise tables.Latin1GeneralCi = refl
rise tables.Latin1GeneralCs = refl
rise tables.General = refl
rise tables.Uca400 = refl
rise tables.Uca520 = refl
rise tables.Uca900Primary = refl
rise tables.Uca900Secondary = refl
rise tables.Uca900Tertiary = refl

pub within : (table : WeightTable) → are_within (weights_of table) (rows_of table) ≡ true
unfolding rows_of weights_of
within tables.CodePoints = refl
within tables.Ascii = refl
within tables.Latin1Swedish = refl
within tables.Latin1GeneralCi = refl
within tables.Latin1GeneralCs = refl
within tables.General = refl
within tables.Uca400 = refl
within tables.Uca520 = refl
within tables.Uca900Primary = refl
within tables.Uca900Secondary = refl
within tables.Uca900Tertiary = refl
