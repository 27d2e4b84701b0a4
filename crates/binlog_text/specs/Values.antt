-- Values as mysqlbinlog prints them, by the type of their column.
use Rattle.std.specs.Prelude.{ℕ, ℤ, pos, negsuc, ◌+◌, ◌-◌, ◌^◌, ◌==◌, ◌&&◌, ◌||◌, nat_lt, nat_le, Bool, false, List, [], ◌∷◌, ◌++◌, length, Option, Some, None, option_map, codes, decimal, if◌then◌else◌}
use Rattle.std.specs.List.{list_all}
use Rattle.std.specs.Char.{is_ascii_digit}
use Rattle.std.specs.Str.{bytes_eq}
use Rattle.row_images.specs.Words.{is_count, count_of}
use Rattle.row_images.specs.declared.value.Value.{Value}
use Rattle.row_images.specs.declared.value.Value.TheVariants.{Null, Int, Bytes}
use Rattle.binlog_text.specs.Tokens.{after_prefix, cut_at, nothing_in, ◌>>=◌}
use Rattle.binlog_text.specs.Quoted.{quote, unquote}
use Rattle.binlog_text.specs.declared.types.IntegerType.{IntegerType}
use Rattle.binlog_text.specs.declared.types.IntegerType.TheVariants as integers
use Rattle.binlog_text.specs.declared.types.ColumnType.{ColumnType}
use Rattle.binlog_text.specs.declared.types.ColumnType.TheVariants as types

-- ---- whole numbers

-- how many numbers are below 0 in the type with a sign
abbrev pub half_of : IntegerType → ℕ
half_of integers.TinyInt = 2 ^ 7
half_of integers.SmallInt = 2 ^ 15
half_of integers.MediumInt = 2 ^ 23
half_of integers.Int = 2 ^ 31
half_of integers.BigInt = 2 ^ 63

-- how many numbers there are, with a sign or without
abbrev pub range_of : IntegerType → ℕ
range_of t = half_of t + half_of t

-- A number is printed as if its type had a sign; one that is below 0 then, also as if it had none.
abbrev pub negative_text : ℕ → ℕ → List ℕ
negative_text below above = 45 ∷ (decimal below ++ 32 ∷ 40 ∷ (decimal above ++ 41 ∷ []))

abbrev pub signed_shown : IntegerType → ℤ → Option (List ℕ)
signed_shown t (pos n) = if nat_lt n (half_of t) then Some (decimal n) else None
signed_shown t (negsuc n) = if nat_lt n (half_of t) then Some (negative_text (n + 1) (range_of t - (n + 1))) else None

-- the value of a number without a sign: from 2 ^ 63 on, where a row has no number, the bytes of its decimal digits
abbrev pub unsigned_value : ℕ → Value
unsigned_value n = if nat_lt n (2 ^ 63) then Int (pos n) else Bytes (decimal n)

-- a number without a sign, below 2 ^ 63
abbrev pub unsigned_shown : IntegerType → ℤ → Option (List ℕ)
unsigned_shown t (pos n) =
    if nat_lt n (half_of t) then Some (decimal n)
    else if nat_lt n (range_of t) && nat_lt n (2 ^ 63) then Some (negative_text (range_of t - n) n)
    else None
unsigned_shown t (negsuc n) = None

-- one from 2 ^ 63 on, by its digits
abbrev pub large_shown : IntegerType → Option ℕ → Option (List ℕ)
large_shown t None = None
large_shown t (Some n) = if nat_le (2 ^ 63) n && nat_lt n (range_of t) then Some (negative_text (range_of t - n) n) else None

abbrev pub number_shown : ℤ → Option (List ℕ)
number_shown (pos n) = if nat_lt n (2 ^ 63) then Some (decimal n) else None
number_shown (negsuc n) = None

-- ---- digits

-- digits, and one at least
abbrev pub are_digits : List ℕ → Bool
are_digits ds = nat_lt 0 (length ds) && list_all is_ascii_digit ds

abbrev pub seconds_in : List ℕ → Option (List ℕ × List ℕ) → Bool
seconds_in text None = is_count text
seconds_in text (Some parts) = is_count parts.0 && are_digits parts.1

-- a number, and digits after a point, if there is one
abbrev pub is_seconds : List ℕ → Bool
is_seconds text = seconds_in text (cut_at 46 text)

-- the same, after a minus or none
abbrev pub is_decimal : List ℕ → Bool
is_decimal [] = false
is_decimal (b ∷ bs) = if b == 45 then is_seconds bs else is_seconds (b ∷ bs)

abbrev pub is_bit : ℕ → Bool
is_bit b = (b == 48) || (b == 49)

-- ---- what is printed

abbrev pub int_shown : ColumnType → ℤ → Option (List ℕ)
int_shown (types.Signed t) z = signed_shown t z
int_shown (types.Unsigned t) z = unsigned_shown t z
int_shown types.Number z = number_shown z
int_shown types.Decimal z = None
int_shown types.Seconds z = None
int_shown types.Bits z = None
int_shown types.Quoted z = None

abbrev pub bytes_shown : ColumnType → List ℕ → Option (List ℕ)
bytes_shown (types.Signed t) bs = None
bytes_shown (types.Unsigned t) bs = large_shown t (count_of bs)
bytes_shown types.Number bs = None
bytes_shown types.Decimal bs = if is_decimal bs then Some bs else None
bytes_shown types.Seconds bs = if is_seconds bs then Some bs else None
bytes_shown types.Bits bs = if list_all is_bit bs then Some (98 ∷ 39 ∷ bs ++ 39 ∷ []) else None
bytes_shown types.Quoted bs = Some (quote bs)

-- what is printed of a value in a column of this type, if it may have the value
abbrev pub shown_value : ColumnType → Value → Option (List ℕ)
shown_value type Null = Some (codes "NULL")
shown_value type (Int z) = int_shown type z
shown_value type (Bytes bs) = bytes_shown type bs

-- ---- reading

-- both readings of a number that is printed as one below 0, after the minus
abbrev pub readings_at : List ℕ → Option (ℕ × ℕ)
readings_at text = do
  first ← cut_at 32 text
  inner ← after_prefix (40 ∷ []) first.1
  second ← cut_at 41 inner
  _ ← nothing_in second.1
  below ← count_of first.0
  above ← count_of second.0
  Some (below, above)

-- both are readings of one number of this type
abbrev pub agree : IntegerType → ℕ → ℕ → Bool
agree t below above = nat_le 1 below && nat_le below (half_of t) && (below + above == range_of t)

abbrev pub negative : IntegerType → Option (ℕ × ℕ) → Option ℤ
negative t None = None
negative t (Some r) = if agree t r.0 r.1 then Some (negsuc (r.0 - 1)) else None

abbrev pub large : IntegerType → Option (ℕ × ℕ) → Option Value
large t None = None
large t (Some r) = if agree t r.0 r.1 then Some (unsigned_value r.1) else None

-- a number below a limit
abbrev pub below : ℕ → Option ℕ → Option ℤ
below limit None = None
below limit (Some n) = if nat_lt n limit then Some (pos n) else None

abbrev pub signed_value : IntegerType → List ℕ → Option ℤ
signed_value t [] = None
signed_value t (b ∷ bs) = if b == 45 then negative t (readings_at bs) else below (half_of t) (count_of (b ∷ bs))

abbrev pub unsigned_at : IntegerType → List ℕ → Option Value
unsigned_at t [] = None
unsigned_at t (b ∷ bs) = if b == 45 then large t (readings_at bs) else option_map Int (below (half_of t) (count_of (b ∷ bs)))

abbrev pub bits_at : List ℕ → Option (List ℕ)
bits_at text = do
  rest ← after_prefix (98 ∷ 39 ∷ []) text
  bits ← cut_at 39 rest
  _ ← nothing_in bits.1
  if list_all is_bit bits.0 then Some bits.0 else None

-- what a value other than NULL is read as
abbrev pub value_of_type : ColumnType → List ℕ → Option Value
value_of_type (types.Signed t) text = option_map Int (signed_value t text)
value_of_type (types.Unsigned t) text = unsigned_at t text
value_of_type types.Number text = option_map Int (below (2 ^ 63) (count_of text))
value_of_type types.Decimal text = if is_decimal text then Some (Bytes text) else None
value_of_type types.Seconds text = if is_seconds text then Some (Bytes text) else None
value_of_type types.Bits text = option_map Bytes (bits_at text)
value_of_type types.Quoted text = option_map Bytes (unquote text)

abbrev pub or_null : List ℕ → Option Value → Option Value
or_null text (Some v) = Some v
or_null text None = if bytes_eq text (codes "NULL") then Some Null else None

-- the value that a text shows
abbrev pub value_at : ColumnType → List ℕ → Option Value
value_at type text = or_null text (value_of_type type text)
