-- The rows of a rows event, by their values. None: its body is not in that form.
use Rattle.std.specs.Prelude.{ℕ, zero, suc, Bool, List, [], ◌∷◌, ◌++◌, length, map, Option, Some, None, option_map, if◌then◌else◌}
use Rattle.row_images.specs.declared.value.Value.{Value}
use Rattle.binlog_rows.specs.declared.columns.MappedColumn.{MappedColumn}
use Rattle.binlog_rows.specs.declared.reading.LoggedRow.{LoggedRow}
use Rattle.binlog_rows.specs.declared.reading.LoggedRows.{LoggedRows}
use Rattle.binlog_rows.specs.Numbers.{and_then, is_set}
use Rattle.binlog_rows.specs.Images.{ValueBytes, present_from}
use Rattle.binlog_rows.specs.Rows.{Row, RowsBody, rows_in, body_of}
use Rattle.binlog_rows.specs.Values.{image_value, image_values}

-- an image: a value for each column that it has, None where the bytes have no value here
abbrev pub Image : Type 0
Image = List (Option Value)

-- both images of a row
abbrev pub row_values : List MappedColumn → List MappedColumn → Row → Image × Image
row_values first second row = (image_values first row.0, image_values second row.1)

-- whether an image has each of so many columns
unfoldable pub flags_of : List ℕ → ℕ → List Bool
flags_of bits zero = []
flags_of bits (suc n) = flags_of bits n ++ is_set bits n ∷ []

-- the rows, and which columns each of their images has
pub record RowsRead : Type 0 where
  pub first : List Bool
  pub second : List Bool
  pub rows : List (Image × Image)

abbrev pub values_in : List MappedColumn → List MappedColumn → List ℕ → Option (List (Image × Image))
values_in first second bytes = option_map (λ rows. map (row_values first second) rows) (rows_in first second bytes)

abbrev pub read_of : List MappedColumn → RowsBody → Option RowsRead
read_of columns b =
    option_map (λ rows. record { first = flags_of b.first (length columns); second = flags_of b.second (length columns); rows = rows })
    (values_in (present_from b.first 0 columns) (present_from b.second 0 columns) b.rows)

-- the rows of a rows event whose table has these columns: those of `rows_of`, each value by its column
unfoldable pub rows_read : ℕ → List MappedColumn → List ℕ → Option RowsRead
rows_read kind columns body = and_then (body_of kind (length columns) body) (λ b. read_of columns b)

-- ---- what the code gives

abbrev pub row_view : LoggedRow → Image × Image
row_view r = (r.first.items, r.second.items)

abbrev pub rows_view : LoggedRows → RowsRead
rows_view r = record { first = r.first.items; second = r.second.items; rows = map row_view r.rows.items }

-- a value is behind others, and these bytes are behind it
abbrev pub value_behind : Image → MappedColumn → ValueBytes × List ℕ → Image × List ℕ
value_behind old column p = (old ++ image_value column p.0 ∷ [], p.1)

-- the values of an image that has these columns are behind others
abbrev pub values_behind : Image → List MappedColumn → List ValueBytes × List ℕ → Image × List ℕ
values_behind old columns p = (old ++ image_values columns p.0, p.1)

-- what was put behind others, and what is left of the bytes
abbrev pub with_left : Image → Option (List ℕ) → Option (Image × List ℕ)
with_left new left = option_map (λ rest. (new, rest)) left

abbrev pub rows_with_left : List LoggedRow → Option (List ℕ) → Option (List (Image × Image) × List ℕ)
rows_with_left new left = option_map (λ rest. (map row_view new, rest)) left

-- a row is behind others, and these bytes are behind it
abbrev pub row_behind : List LoggedRow → List MappedColumn → List MappedColumn → Row × List ℕ → List (Image × Image) × List ℕ
row_behind old first second p = (map row_view old ++ row_values first second p.0 ∷ [], p.1)

-- rows are behind others
abbrev pub rows_behind : List LoggedRow → List MappedColumn → List MappedColumn → List Row → List (Image × Image)
rows_behind old first second rows = map row_view old ++ map (row_values first second) rows

abbrev pub rows_if : Bool → List LoggedRow → Option (List (Image × Image))
rows_if done new = if done then Some (map row_view new) else None
