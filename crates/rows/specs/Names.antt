-- The names of tables and channels (our own rules).
use Rattle.std.specs.Prelude.{ℕ, ◌+◌, ◌*◌, ◌-◌, Bool, true, false, not, ◌&&◌, ◌||◌, ◌==◌, nat_le, if◌then◌else◌, List, [], ◌∷◌, length}
use Rattle.std.specs.List.{list_all, count_by, slice_split}
use Rattle.std.specs.Char.{is_ascii_lowercase, is_ascii_uppercase, is_ascii_digit}

-- ---- of versions 1 and 2

-- a to z, 0 to 9 or _, which is 95
abbrev pub is_short_name_byte : ℕ → Bool
is_short_name_byte c = is_ascii_lowercase c || is_ascii_digit c || c == 95

abbrev pub begins_with_digit : List ℕ → Bool
begins_with_digit [] = false
begins_with_digit (c ∷ cs) = is_ascii_digit c

abbrev pub has_short_length : List ℕ → Bool
has_short_length text = nat_le 1 (length text) && nat_le (length text) 64

-- 1 to 64 of these, and the first no digit
abbrev pub is_short_name : List ℕ → Bool
is_short_name text = has_short_length text && list_all is_short_name_byte text && not (begins_with_digit text)

-- ---- of version 3

-- a to z, A to Z, 0 to 9, and _ $ -, which are 95, 36 and 45
abbrev pub is_plain : ℕ → Bool
is_plain c = is_ascii_lowercase c || is_ascii_uppercase c || is_ascii_digit c || c == 95 || c == 36 || c == 45

-- a to f and 0 to 9
abbrev pub is_low_digit : ℕ → Bool
is_low_digit c = is_ascii_digit c || nat_le 97 c && nat_le c 102

abbrev pub low_digit : ℕ → ℕ
low_digit c = if nat_le 97 c then c - 87 else c - 48

-- two digits that stand for a byte which is not plain
abbrev pub is_escape : ℕ → ℕ → Bool
is_escape a b = is_low_digit a && is_low_digit b && not (is_plain (16 * low_digit a + low_digit b))

-- each character is plain, or % (37) with two digits
abbrev pub are_characters : List ℕ → Bool
are_characters [] = true
are_characters (c ∷ []) = is_plain c
are_characters (c ∷ a ∷ []) = is_plain c && is_plain a
are_characters (c ∷ a ∷ b ∷ cs) = if c == 37 then is_escape a b && are_characters cs else is_plain c && are_characters (a ∷ b ∷ cs)

abbrev pub is_name_part : List ℕ → Bool
is_name_part part = nat_le 1 (length part) && are_characters part

-- parts of one or more characters, with a dot (46) between them; at most 512 characters, of which an escape is one
abbrev pub is_name : List ℕ → Bool
is_name text = list_all is_name_part (slice_split (λ c. c == 46) text) && nat_le (length text) (512 + 2 * count_by (λ c. c == 37) text)
