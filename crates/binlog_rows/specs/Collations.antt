-- The columns whose values a server compares otherwise than by their bytes, by the collations in a TABLE_MAP's optional metadata.
use Rattle.std.specs.Prelude.{ℕ, ◌+◌, ◌==◌, ◌||◌, ◌&&◌, nat_le, Bool, true, false, List, [], ◌∷◌, Option, Some, None, option_map, if◌then◌else◌}
use Rattle.collations.specs.Finding.{collation_numbered}
use Rattle.binlog_rows.specs.Numbers.{and_then, packed}
use Rattle.binlog_rows.specs.Options.{content_of}
use Rattle.binlog_rows.specs.Signs.{signedness_of, has_signs}
use Rattle.binlog_rows.specs.Columns.{columns_from, described}
use Rattle.binlog_rows.specs.declared.comparisons.Comparison.{Comparison}
use Rattle.binlog_rows.specs.declared.comparisons.Comparison.TheVariants.{Bytes, Otherwise}
use Rattle.binlog_rows.specs.declared.comparisons.VariedPlace.{VariedPlace}
use Rattle.binlog_rows.specs.declared.columns.MappedColumn.{MappedColumn}
use Rattle.binlog_rows.specs.declared.columns.MappedColumn.TheVariants.{Float, Double, Char, Varchar, Blob, Vector}

-- ---- collations, by MySQL's numbers

abbrev pub within : ℕ → ℕ → ℕ → Bool
within low high n = nat_le low n && nat_le n high

-- binary, that of BINARY, VARBINARY, BLOB and VECTOR, and utf8mb4_0900_bin, which pads no text
unfoldable pub is_unpadded : ℕ → Bool
is_unpadded collation = (collation == 63) || (collation == 309)

-- those whose names end in _bin, and binary: for CHAR, which is kept without blanks at its end
unfoldable pub is_bin : ℕ → Bool
is_bin collation =
    within 46 47 collation
    || (within 61 75 collation
    || (within 77 91 collation
    || ((collation == 43)
    || ((collation == 50)
    || ((collation == 53)
    || ((collation == 55)
    || ((collation == 58)
    || ((collation == 93)
    || ((collation == 96)
    || ((collation == 98)
    || ((collation == 249)
    || (collation == 309))))))))))))

-- ---- columns

-- the types that have a collation: those of strings, not ENUM and SET, JSON and GEOMETRY
abbrev pub is_character : MappedColumn → Bool
is_character (Char most) = true
is_character (Varchar most) = true
is_character (Blob width) = true
is_character (Vector width) = true
is_character _ = false

-- of FLOAT and DOUBLE, 0 and -0 are equal for the server
abbrev pub has_negative_zero : MappedColumn → Bool
has_negative_zero Float = true
has_negative_zero Double = true
has_negative_zero _ = false

-- two values are equal for the server if and only if their bytes are
abbrev pub compares_bytes : MappedColumn → ℕ → Bool
compares_bytes (Char most) collation = is_bin collation
compares_bytes column collation = is_unpadded collation

-- how a server compares a character column of this collation, and a column that has none
abbrev pub compared_by : MappedColumn → ℕ → Comparison
compared_by column collation = if compares_bytes column collation then Bytes else Otherwise (collation_numbered collation)

abbrev pub compared_alone : MappedColumn → Comparison
compared_alone column = if has_negative_zero column then Otherwise None else Bytes

abbrev pub index_behind : MappedColumn → ℕ → ℕ
index_behind column index = if is_character column then index + 1 else index

-- The collation of the character column of this index, and what is behind it. With a default: that of the pair at the front, if the pair has
-- this index, or the default.
abbrev pub default_or : ℕ → ℕ → List ℕ → ℕ × List ℕ → Option (ℕ × List ℕ)
default_or default index bytes p = if p.0 == index then packed p.1 else Some (default, bytes)

unfoldable pub by_default : ℕ → ℕ → List ℕ → Option (ℕ × List ℕ)
by_default default index [] = Some (default, [])
by_default default index (byte ∷ more) = and_then (packed (byte ∷ more)) (λ p. default_or default index (byte ∷ more) p)

abbrev pub collation_at : Option ℕ → ℕ → List ℕ → Option (ℕ × List ℕ)
collation_at None index bytes = packed bytes
collation_at (Some default) index bytes = by_default default index bytes

-- how a column is compared, and what is behind its collation, if it has one
unfoldable pub read_column : Option ℕ → ℕ → List ℕ → MappedColumn → Option (Comparison × List ℕ)
read_column default index bytes column =
    if is_character column then and_then (collation_at default index bytes) (λ p. Some (compared_by column p.0, p.1))
    else Some (compared_alone column, bytes)

abbrev pub with_place : Comparison → ℕ → List VariedPlace → List VariedPlace
with_place Bytes place places = places
with_place (Otherwise collation) place places = record { place = place; collation = collation } ∷ places

-- the places of such columns among these, the first of which has this place, and the first character column this index; the bytes are their
-- collations, to the end
unfoldable pub varied_from : Option ℕ → ℕ → ℕ → List MappedColumn → List ℕ → Option (List VariedPlace)
varied_from default index place [] [] = Some []
varied_from default index place [] (byte ∷ more) = None
varied_from default index place (column ∷ columns) bytes =
    and_then (read_column default index bytes column) (λ p.
    option_map (λ places. with_place p.0 place places) (varied_from default (index_behind column index) (place + 1) columns p.1))

-- ---- the fields

-- by DEFAULT_CHARSET: a default, and pairs of a character column's index and its collation, in the order of the columns
abbrev pub varied_by_default : List MappedColumn → Option (ℕ × List ℕ) → Option (List VariedPlace)
varied_by_default columns None = None
varied_by_default columns (Some p) = varied_from (Some p.0) 0 0 columns p.1

-- by COLUMN_CHARSET, where there is one: a collation for each character column; or by DEFAULT_CHARSET; with neither there may be no character
-- column
abbrev pub varied_by : List MappedColumn → Option (List ℕ) → Option (List ℕ) → Option (List VariedPlace)
varied_by columns (Some each) other = varied_from None 0 0 columns each
varied_by columns None (Some bytes) = varied_by_default columns (packed bytes)
varied_by columns None None = varied_from None 0 0 columns []

-- where each numeric column has a sign; COLUMN_CHARSET is field 3, and DEFAULT_CHARSET field 2
abbrev pub varied_of : List ℕ → List MappedColumn → Option (List VariedPlace)
varied_of options columns =
    if has_signs (signedness_of options) columns then varied_by columns (content_of 3 options) (content_of 2 options) else None

-- the places of such columns, counted from 0, with their collations, by the body of a TABLE_MAP. None: it is not in that form, or doesn't say the sign of a numeric
-- column or the collation of a character column.
unfoldable pub varied_columns : List ℕ → Option (List VariedPlace)
varied_columns body =
    and_then (described body) (λ b. and_then (columns_from b.kinds b.metadata) (λ columns. varied_of b.options columns))
