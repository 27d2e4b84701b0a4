-- Whether the numbers of columns have a sign, by the optional metadata of a TABLE_MAP.
use Rattle.std.specs.Prelude.{ℕ, ◌+◌, ◌-◌, ◌/◌, ◌%◌, ◌^◌, ◌==◌, nat_lt, nat_le, Bool, true, false, List, [], ◌∷◌, length, slice_index, Option, Some, None, if◌then◌else◌}
use Rattle.binlog_rows.specs.Numbers.{bits_width}
use Rattle.binlog_rows.specs.Options.{content_of}
use Rattle.binlog_rows.specs.declared.columns.MappedColumn.{MappedColumn}
use Rattle.binlog_rows.specs.declared.columns.MappedColumn.TheVariants.{Integer, Float, Double, Decimal, Year}
use Rattle.binlog_rows.specs.declared.columns.Signedness.{Signedness}
use Rattle.binlog_rows.specs.declared.columns.Signedness.TheVariants.{Unknown, Signed, Unsigned}

-- ---- the field

abbrev pub or_nothing : Option (List ℕ) → List ℕ
or_nothing None = []
or_nothing (Some bytes) = bytes

-- the content of SIGNEDNESS, which is field 1; nothing where there is none
abbrev pub signedness_of : List ℕ → List ℕ
signedness_of bytes = or_nothing (content_of 1 bytes)

-- ---- the bits

-- the bit at a place, the high one of each byte first: of a column whose numbers have no sign it is set
unfoldable pub sign_at : List ℕ → ℕ → Signedness
sign_at bits place =
    if nat_lt (place / 8) (length bits) then
    (if slice_index bits (place / 8) / 2 ^ (7 - place % 8) % 2 == 1 then Unsigned else Signed)
    else Unknown

-- the types that have a bit: those of numbers, YEAR too, and not BIT
abbrev pub is_numeric : MappedColumn → Bool
is_numeric (Integer width sign) = true
is_numeric Float = true
is_numeric Double = true
is_numeric (Decimal precision scale) = true
is_numeric Year = true
is_numeric _ = false

abbrev pub with_sign : Signedness → MappedColumn → MappedColumn
with_sign sign (Integer width old) = Integer width sign
with_sign sign column = column

abbrev pub place_behind : MappedColumn → ℕ → ℕ
place_behind column place = if is_numeric column then place + 1 else place

-- columns with their signs; the first numeric one among them has the bit at this place
unfoldable pub signed_from : List ℕ → ℕ → List MappedColumn → List MappedColumn
signed_from bits place [] = []
signed_from bits place (column ∷ columns) = with_sign (sign_at bits place) column ∷ signed_from bits (place_behind column place) columns

-- where the next numeric column behind these is, the first of which has this place
unfoldable pub numbered_from : ℕ → List MappedColumn → ℕ
numbered_from place [] = place
numbered_from place (column ∷ columns) = numbered_from (place_behind column place) columns

-- each numeric column has a bit
abbrev pub has_signs : List ℕ → List MappedColumn → Bool
has_signs bits columns = nat_le (bits_width (numbered_from 0 columns)) (length bits)
