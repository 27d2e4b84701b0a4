-- The tables, as the code has them: `tools/collations` writes them from what a server answers.
use Rattle.std.specs.Prelude.{ℕ, List}
use Rattle.collation_weights.specs.declared.row.WeightRow.{WeightRow}
use Rattle.collation_weights.specs.declared.tables.WeightTable.{WeightTable}
use Rattle.collation_weights.specs.declared.tables.WeightTable.TheVariants as tables
use Rattle.collation_weights.specs.declared.tables.code_points.TheConstants as code_points
use Rattle.collation_weights.specs.declared.tables.ascii.TheConstants as ascii
use Rattle.collation_weights.specs.declared.tables.latin1_swedish.TheConstants as latin1_swedish
use Rattle.collation_weights.specs.declared.tables.latin1_general_ci.TheConstants as latin1_general_ci
use Rattle.collation_weights.specs.declared.tables.latin1_general_cs.TheConstants as latin1_general_cs
use Rattle.collation_weights.specs.declared.tables.general.TheConstants as general
use Rattle.collation_weights.specs.declared.tables.uca_400.TheConstants as uca_400
use Rattle.collation_weights.specs.declared.tables.uca_520.TheConstants as uca_520
use Rattle.collation_weights.specs.declared.tables.uca_900_primary.TheConstants as uca_900_primary
use Rattle.collation_weights.specs.declared.tables.uca_900_secondary.TheConstants as uca_900_secondary
use Rattle.collation_weights.specs.declared.tables.uca_900_tertiary.TheConstants as uca_900_tertiary

-- the rows of a table
unfoldable pub rows_of : WeightTable → List WeightRow
rows_of tables.CodePoints = code_points.ROWS
rows_of tables.Ascii = ascii.ROWS
rows_of tables.Latin1Swedish = latin1_swedish.ROWS
rows_of tables.Latin1GeneralCi = latin1_general_ci.ROWS
rows_of tables.Latin1GeneralCs = latin1_general_cs.ROWS
rows_of tables.General = general.ROWS
rows_of tables.Uca400 = uca_400.ROWS
rows_of tables.Uca520 = uca_520.ROWS
rows_of tables.Uca900Primary = uca_900_primary.ROWS
rows_of tables.Uca900Secondary = uca_900_secondary.ROWS
rows_of tables.Uca900Tertiary = uca_900_tertiary.ROWS

-- the weights of its rows
unfoldable pub weights_of : WeightTable → List ℕ
weights_of tables.CodePoints = code_points.WEIGHTS
weights_of tables.Ascii = ascii.WEIGHTS
weights_of tables.Latin1Swedish = latin1_swedish.WEIGHTS
weights_of tables.Latin1GeneralCi = latin1_general_ci.WEIGHTS
weights_of tables.Latin1GeneralCs = latin1_general_cs.WEIGHTS
weights_of tables.General = general.WEIGHTS
weights_of tables.Uca400 = uca_400.WEIGHTS
weights_of tables.Uca520 = uca_520.WEIGHTS
weights_of tables.Uca900Primary = uca_900_primary.WEIGHTS
weights_of tables.Uca900Secondary = uca_900_secondary.WEIGHTS
weights_of tables.Uca900Tertiary = uca_900_tertiary.WEIGHTS
