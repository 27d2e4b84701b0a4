-- The images of rows: their values, as bytes. None: the bytes end too early.
use Rattle.std.specs.Prelude.{ℕ, ◌+◌, ◌-◌, ◌*◌, ◌/◌, ◌%◌, nat_lt, List, [], ◌∷◌, length, Option, Some, None, if◌then◌else◌}
use Rattle.binlog_rows.specs.Numbers.{and_then, split, number_of, bits_width, is_set}
use Rattle.binlog_rows.specs.declared.columns.MappedColumn.{MappedColumn}
use Rattle.binlog_rows.specs.declared.columns.MappedColumn.TheVariants.{Integer, Float, Double, Decimal, Bit, Year, Date, Time, Datetime, Timestamp, Char, Varchar, Blob, Json, Geometry, Vector, Enum, Set}
use Rattle.binlog_rows.specs.declared.images.Layout.{Layout}
use Rattle.binlog_rows.specs.declared.images.Layout.TheVariants.{Fixed, Counted}

-- so many digits of a DECIMAL: 4 bytes for each 9, and a byte for each two of those that are left, or for the last one
abbrev pub digits_width : ℕ → ℕ
digits_width n = n / 9 * 4 + (n % 9 + 1) / 2

-- how many bytes a length takes that is at most this
abbrev pub length_width : ℕ → ℕ
length_width most = if nat_lt most 256 then 1 else 2

-- how the values of a column lie: in so many bytes, or behind their length, which takes so many bytes. A fraction has a byte for each two
-- digits, or for the last one.
unfoldable pub layout_of : MappedColumn → Layout
layout_of (Integer width sign) = Fixed width
layout_of Float = Fixed 4
layout_of Double = Fixed 8
layout_of (Decimal precision scale) = Fixed (digits_width (precision - scale) + digits_width scale)
layout_of (Bit bits) = Fixed (bits_width bits)
layout_of Year = Fixed 1
layout_of Date = Fixed 3
layout_of (Time digits) = Fixed (3 + (digits + 1) / 2)
layout_of (Datetime digits) = Fixed (5 + (digits + 1) / 2)
layout_of (Timestamp digits) = Fixed (4 + (digits + 1) / 2)
layout_of (Char most) = Counted (length_width most)
layout_of (Varchar most) = Counted (length_width most)
layout_of (Blob width) = Counted width
layout_of (Json width) = Counted width
layout_of (Geometry width) = Counted width
layout_of (Vector width) = Counted width
layout_of (Enum width) = Fixed width
layout_of (Set width) = Fixed width

-- the bytes of the value at the front, without its length, and what is behind it
abbrev pub value_by : Layout → List ℕ → Option (List ℕ × List ℕ)
value_by (Fixed width) bytes = split width bytes
value_by (Counted width) bytes = and_then (number_of width bytes) (λ len. split len.0 len.1)

-- a value in an image: its bytes, None where it is NULL
abbrev pub ValueBytes : Type 0
ValueBytes = Option (List ℕ)

-- the value at this place of an image with these null bits, and what is behind it: NULL takes no bytes
unfoldable pub value_at : List ℕ → ℕ → MappedColumn → List ℕ → Option (ValueBytes × List ℕ)
value_at nulls i column bytes =
    if is_set nulls i then Some (None, bytes)
    else and_then (value_by (layout_of column) bytes) (λ p. Some (Some p.0, p.1))

-- the values from this place on, one for each of these columns, and what is behind them
unfoldable pub values_from : List ℕ → ℕ → List MappedColumn → List ℕ → Option (List ValueBytes × List ℕ)
values_from nulls i [] bytes = Some ([], bytes)
values_from nulls i (column ∷ columns) bytes =
    and_then (value_at nulls i column bytes) (λ p. and_then (values_from nulls (i + 1) columns p.1) (λ q. Some (p.0 ∷ q.0, q.1)))

-- an image that has these columns, and what is behind it: a bit for each column, whether it is NULL, and the values
unfoldable pub image_at : List MappedColumn → List ℕ → Option (List ValueBytes × List ℕ)
image_at columns bytes = and_then (split (bits_width (length columns)) bytes) (λ nulls. values_from nulls.0 0 columns nulls.1)

-- the columns of those from this place on that an image has: a bit for each is set
unfoldable pub present_from : List ℕ → ℕ → List MappedColumn → List MappedColumn
present_from bits i [] = []
present_from bits i (column ∷ columns) =
    if is_set bits i then column ∷ present_from bits (i + 1) columns else present_from bits (i + 1) columns
