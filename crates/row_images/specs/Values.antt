-- The one spelling of a value, and the value that a word parses as.
use Rattle.std.specs.Prelude.{ℕ, ◌+◌, ◌-◌, ◌*◌, ◌%◌, ◌^◌, ℤ, pos, negsuc, zero, suc, ◌==◌, nat_lt, nat_le, ◌&&◌, ◌||◌, Bool, true, false, length, List, [], ◌∷◌, Option, Some, None, option_map, Result, Ok, Err, codes, if◌then◌else◌, FitsSigned}
use Rattle.std.specs.Int.{w64}
use Rattle.std.specs.Fmt.{signed_decimal}
use Rattle.std.specs.Str.{bytes_eq}
use Rattle.std.specs.Str.Parse.{digits_value}
use Rattle.hex.specs.Hex.{IsBytes, encode_lower, decode_of}
use Rattle.hex.specs.declared.error.FromHexError.{FromHexError}
use Rattle.row_images.specs.declared.value.Value.{Value}
use Rattle.row_images.specs.declared.value.Value.TheVariants.{Null, Int, Bytes}

-- `null`, a decimal number, or `x` and two lower-case digits for each byte
abbrev pub value_text : Value → List ℕ
value_text Null = codes "null"
value_text (Int n) = signed_decimal n
value_text (Bytes bytes) = 120 ∷ encode_lower bytes

-- what is found, if its text is the word again
abbrev pub where_same : {A : Type 0} → (A → List ℕ) → List ℕ → A → Option A
where_same text word x = if bytes_eq (text x) word then Some x else None

-- ---- numbers

-- the number of a sign and digits
abbrev pub below_zero : ℕ → ℤ
below_zero zero = pos 0
below_zero (suc n) = negsuc n

abbrev pub signed_value : List ℕ → ℤ
signed_value [] = pos 0
signed_value (b ∷ bs) = if b == 45 then below_zero (digits_value 10 bs) else pos (digits_value 10 (b ∷ bs))

-- from -9223372036854775808 to 9223372036854775807
abbrev pub is_small : ℤ → Bool
is_small (pos n) = nat_lt n (2 ^ 63)
is_small (negsuc n) = nat_lt n (2 ^ 63)

abbrev pub int_of : List ℕ → Option ℤ
int_of word = if is_small (signed_value word) then where_same signed_decimal word (signed_value word) else None

-- ---- bytes

-- `0` to `9` and `a` to `f`
abbrev pub is_lower_digit : ℕ → Bool
is_lower_digit b = (nat_le 48 b && nat_le b 57) || (nat_le 97 b && nat_le b 102)

-- the value of a digit that lower case writes, and 16 for any other byte
abbrev pub digit_of : ℕ → ℕ
digit_of b = if nat_le 48 b && nat_le b 57 then b - 48 else if nat_le 97 b && nat_le b 102 then b - 97 + 10 else 16

-- a byte for each two digits
abbrev pub pairs_of : List ℕ → List ℕ
pairs_of [] = []
pairs_of (high ∷ []) = []
pairs_of (high ∷ low ∷ digits) = (digit_of high % 16 * 16 + digit_of low % 16) ∷ pairs_of digits

abbrev pub bytes_found : List ℕ → Result (List ℕ) FromHexError → Option (List ℕ)
bytes_found digits (Ok bytes) = where_same encode_lower digits bytes
bytes_found digits (Err e) = None

-- the bytes that lower-case digits parse as
abbrev pub bytes_of : List ℕ → Option (List ℕ)
bytes_of digits = bytes_found digits (decode_of digits)

-- ---- values

abbrev pub other_value : List ℕ → Option Value
other_value [] = option_map Int (int_of [])
other_value (b ∷ bs) = if b == 120 then option_map Bytes (bytes_of bs) else option_map Int (int_of (b ∷ bs))

-- the value that a word parses as
abbrev pub value_of : List ℕ → Option Value
value_of word = if bytes_eq word (codes "null") then Some Null else other_value word

-- a number of 64 bits, and bytes
abbrev pub FitsValue : Value → Type 0
FitsValue Null = Unit {0}
FitsValue (Int n) = FitsSigned w64 n
FitsValue (Bytes bytes) = IsBytes bytes

-- ---- what is asked of a value

abbrev pub is_null : Value → Bool
is_null Null = true
is_null (Int n) = false
is_null (Bytes b) = false

-- more than this many bytes
abbrev pub is_longer : ℕ → Value → Bool
is_longer most Null = false
is_longer most (Int n) = false
is_longer most (Bytes b) = nat_lt most (length b)

-- the word of such a value: `x` and two digits for each byte
abbrev pub is_long_word : ℕ → List ℕ → Bool
is_long_word most [] = false
is_long_word most (b ∷ bs) = b == 120 && nat_lt (2 * most) (length bs)
