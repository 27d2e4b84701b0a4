-- The rows of a rows event. None: its body is not in that form.
use Rattle.std.specs.Prelude.{ℕ, zero, suc, ◌-◌, ◌==◌, ◌||◌, ◌&&◌, nat_lt, nat_le, Bool, List, [], ◌∷◌, length, Option, Some, None, option_map, if◌then◌else◌}
use Rattle.binlog_rows.specs.Numbers.{and_then, split, behind, number_of, packed, bits_width}
use Rattle.binlog_rows.specs.Images.{ValueBytes, image_at, present_from}
use Rattle.binlog_rows.specs.declared.columns.MappedColumn.{MappedColumn}
use Rattle.binlog_rows.specs.declared.bodies.BodyBytes.{BodyBytes}

-- a row is its two images: UPDATE has that before and that after, WRITE and DELETE have one, and the second one has no columns
abbrev pub Row : Type 0
Row = List ValueBytes × List ValueBytes

-- the row at the front, whose images have these columns, and what is behind it
unfoldable pub row_at : List MappedColumn → List MappedColumn → List ℕ → Option (Row × List ℕ)
row_at first second bytes = and_then (image_at first bytes) (λ p. and_then (image_at second p.1) (λ q. Some ((p.0, q.0), q.1)))

-- up to so many rows, which are all of these bytes
unfoldable pub rows_from : ℕ → List MappedColumn → List MappedColumn → List ℕ → Option (List Row)
rows_from n first second [] = Some []
rows_from zero first second (byte ∷ more) = None
rows_from (suc n) first second (byte ∷ more) =
    and_then (row_at first second (byte ∷ more)) (λ p. option_map (λ rows. p.0 ∷ rows) (rows_from n first second p.1))

-- these bytes are rows to their end. There are no more rows than bytes: rows that take none would have no end.
abbrev pub rows_to_end : List MappedColumn → List MappedColumn → List ℕ → Option (List Row)
rows_to_end first second bytes = rows_from (length bytes) first second bytes

-- no image has a column, and there are no bytes
abbrev pub is_empty_row : List MappedColumn → List MappedColumn → List ℕ → Bool
is_empty_row first second bytes = (length first == 0) && ((length second == 0) && (length bytes == 0))

-- the rows that these bytes are. Where no image has a column there is one row, and it takes no bytes: so servers write an INSERT that gives
-- no column a value, where images have only the columns that were given one.
abbrev pub rows_in : List MappedColumn → List MappedColumn → List ℕ → Option (List Row)
rows_in first second bytes = if is_empty_row first second bytes then Some (([], []) ∷ []) else rows_to_end first second bytes

-- rows events: 23 to 25 of version 1, 30 to 32 of version 2, each WRITE, UPDATE and DELETE
abbrev pub is_first_version : ℕ → Bool
is_first_version kind = nat_le 23 kind && nat_le kind 25

abbrev pub is_second_version : ℕ → Bool
is_second_version kind = nat_le 30 kind && nat_le kind 32

abbrev pub is_update : ℕ → Bool
is_update kind = (kind == 24) || (kind == 31)

-- what is behind the extra information of version 2, whose first 2 bytes are its length, these too
unfoldable pub behind_extra : List ℕ → Option (List ℕ)
behind_extra bytes = and_then (number_of 2 bytes) (λ len. if nat_lt len.0 2 then None else behind (len.0 - 2) len.1)

-- what is behind the head of a rows event: 6 bytes of the table's id, 2 bytes of flags, and in version 2 the extra information
unfoldable pub behind_head : ℕ → List ℕ → Option (List ℕ)
behind_head kind body =
    if is_first_version kind then behind 8 body
    else if is_second_version kind then and_then (behind 8 body) (λ rest. behind_extra rest)
    else None

-- a rows event without its head: a bit for each column of the map, whether an image has it, for each of the two images, and the bytes of
-- the rows
pub record RowsBody : Type 0 where
  pub first : List ℕ
  pub second : List ℕ
  pub rows : List ℕ

-- how many bytes the bits of the second image take, which only UPDATE has
abbrev pub second_width : ℕ → ℕ → ℕ
second_width kind count = if is_update kind then bits_width count else 0

-- from the bits on, where the map has so many columns
unfoldable pub bits_at : ℕ → ℕ → List ℕ → Option RowsBody
bits_at kind count bytes =
    and_then (split (bits_width count) bytes) (λ a. and_then (split (second_width kind count) a.1) (λ b.
    Some (record { first = a.0; second = b.0; rows = b.1 })))

-- behind the head the number of columns stands packed, which is that of the map
unfoldable pub body_of : ℕ → ℕ → List ℕ → Option RowsBody
body_of kind count body =
    and_then (behind_head kind body) (λ rest. and_then (packed rest) (λ p. if p.0 == count then bits_at kind count p.1 else None))

-- the rows of a rows event whose table has these columns
unfoldable pub rows_of : ℕ → List MappedColumn → List ℕ → Option (List Row)
rows_of kind columns body =
    and_then (body_of kind (length columns) body) (λ b. rows_in (present_from b.first 0 columns) (present_from b.second 0 columns) b.rows)

-- how many rows it has
abbrev pub row_count : ℕ → List MappedColumn → List ℕ → Option ℕ
row_count kind columns body = option_map length (rows_of kind columns body)

-- what the code gives
abbrev pub body_view : BodyBytes → RowsBody
body_view b = record { first = b.first.now; second = b.second.now; rows = b.rows.now }
