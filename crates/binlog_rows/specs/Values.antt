-- What the bytes of a value are: a number, or a string of bytes. None: they have no form here, or are not in the one form of a value.
use Rattle.std.specs.Prelude.{ℕ, pos, negsuc, ◌+◌, ◌-◌, ◌^◌, ◌==◌, nat_lt, nat_le, Bool, true, List, [], ◌∷◌, length, reverse, take, drop, Option, Some, None, option_map, decimal, if◌then◌else◌}
use Rattle.std.specs.List.{list_all, flat_map}
use Rattle.row_images.specs.declared.value.Value.{Value}
use Rattle.row_images.specs.declared.value.Value.TheVariants.{Null, Int, Bytes}
use Rattle.binlog_rows.specs.declared.columns.MappedColumn.{MappedColumn}
use Rattle.binlog_rows.specs.declared.columns.MappedColumn.TheVariants as columns
use Rattle.binlog_rows.specs.declared.columns.Signedness.{Signedness}
use Rattle.binlog_rows.specs.declared.columns.Signedness.TheVariants as signs
use Rattle.binlog_rows.specs.declared.images.Layout.{Layout}
use Rattle.binlog_rows.specs.declared.images.Layout.TheVariants.{Fixed, Counted}
use Rattle.binlog_rows.specs.Numbers.{low_number, high_number}
use Rattle.binlog_rows.specs.Images.{ValueBytes, layout_of}
use Rattle.binlog_rows.specs.Digits.{is_zero, byte_digits}
use Rattle.binlog_rows.specs.Times.{date_of, time_of, datetime_of, timestamp_of}
use Rattle.binlog_rows.specs.Decimals.{decimal_of}
use Rattle.binlog_rows.specs.Json.{json_text}

-- ---- numbers

-- a number without a sign: from 2 ^ 63 on, where a row has no number, the bytes of its decimal digits
abbrev pub unsigned_value : ℕ → Value
unsigned_value n = if nat_lt n (2 ^ 63) then Int (pos n) else Bytes (decimal n)

-- the greatest number of so many bytes, one bit of which is the sign
abbrev pub greatest : ℕ → Option ℕ
greatest width =
    if width == 1 then Some (2 ^ 7 - 1)
    else if width == 2 then Some (2 ^ 15 - 1)
    else if width == 3 then Some (2 ^ 23 - 1)
    else if width == 4 then Some (2 ^ 31 - 1)
    else if width == 8 then Some (2 ^ 63 - 1)
    else None

-- two's complement: numbers above the greatest are those below 0, -1 the last of them
abbrev pub signed_value : ℕ → ℕ → Option Value
signed_value most n =
    if nat_le n most then Some (Int (pos n))
    else if nat_le n (most + most + 1) then Some (Int (negsuc (most + most + 1 - n)))
    else None

abbrev pub signed_by : Option ℕ → ℕ → Option Value
signed_by None n = None
signed_by (Some most) n = signed_value most n

-- lowest byte first, with a sign or without; where the map doesn't say which, bytes have no value
abbrev pub integer_value : ℕ → Signedness → List ℕ → Option Value
integer_value width signs.Unknown bytes = None
integer_value width signs.Signed bytes = signed_by (greatest width) (low_number bytes)
integer_value width signs.Unsigned bytes = Some (unsigned_value (low_number bytes))

-- a year from 1900 on; 0 is the year 0000, which mysqlbinlog prints as 1900 too
abbrev pub year_value : List ℕ → Option Value
year_value (n ∷ []) = Some (Int (pos (1900 + n)))
year_value _ = None

-- ---- strings of bytes

-- SET: a bit for each name, those of the first eight names in the first byte; the high bit of a byte is printed first
abbrev pub set_value : List ℕ → Value
set_value bytes = Bytes (flat_map byte_digits bytes)

-- BIT: so many bits, highest first; those before them are 0
abbrev pub low_bits : ℕ → List ℕ → Option Value
low_bits count digits =
    if list_all is_zero (take (length digits - count) digits) then Some (Bytes (drop (length digits - count) digits)) else None

abbrev pub bit_value : ℕ → List ℕ → Option Value
bit_value count bytes = low_bits count (flat_map byte_digits bytes)

-- at most so many bytes
abbrev pub short_value : ℕ → List ℕ → Option Value
short_value most bytes = if nat_le (length bytes) most then Some (Bytes bytes) else None

-- without a fraction the seconds are a number
abbrev pub timestamp_value : ℕ → List ℕ → Option Value
timestamp_value digits bytes =
    if digits == 0 then Some (unsigned_value (high_number bytes)) else option_map Bytes (timestamp_of digits bytes)

-- ---- values

-- FLOAT and DOUBLE are the bytes of their IEEE form, the sign's first; JSON is the text of the document
unfoldable pub value_by_type : MappedColumn → List ℕ → Option Value
value_by_type (columns.Integer width sign) bytes = integer_value width sign bytes
value_by_type columns.Float bytes = Some (Bytes (reverse bytes))
value_by_type columns.Double bytes = Some (Bytes (reverse bytes))
value_by_type (columns.Decimal precision scale) bytes = option_map Bytes (decimal_of precision scale bytes)
value_by_type (columns.Bit count) bytes = bit_value count bytes
value_by_type columns.Year bytes = year_value bytes
value_by_type columns.Date bytes = option_map Bytes (date_of bytes)
value_by_type (columns.Time digits) bytes = option_map Bytes (time_of digits bytes)
value_by_type (columns.Datetime digits) bytes = option_map Bytes (datetime_of digits bytes)
value_by_type (columns.Timestamp digits) bytes = timestamp_value digits bytes
value_by_type (columns.Char most) bytes = short_value most bytes
value_by_type (columns.Varchar most) bytes = short_value most bytes
value_by_type (columns.Blob width) bytes = Some (Bytes bytes)
value_by_type (columns.Json width) bytes = option_map Bytes (json_text bytes)
value_by_type (columns.Geometry width) bytes = Some (Bytes bytes)
value_by_type (columns.Vector width) bytes = Some (Bytes bytes)
value_by_type (columns.Enum width) bytes = Some (unsigned_value (low_number bytes))
value_by_type (columns.Set width) bytes = Some (set_value bytes)

-- so many bytes lie so
abbrev pub lies_so : Layout → ℕ → Bool
lies_so (Fixed width) len = width == len
lies_so (Counted width) len = true

-- the value that these bytes are in such a column
unfoldable pub value_of : MappedColumn → List ℕ → Option Value
value_of column bytes = if lies_so (layout_of column) (length bytes) then value_by_type column bytes else None

-- a value of an image
abbrev pub image_value : MappedColumn → ValueBytes → Option Value
image_value column None = Some Null
image_value column (Some bytes) = value_of column bytes

-- the values of an image that has these columns
unfoldable pub image_values : List MappedColumn → List ValueBytes → List (Option Value)
image_values [] values = []
image_values (column ∷ columns) [] = []
image_values (column ∷ columns) (v ∷ values) = image_value column v ∷ image_values columns values
