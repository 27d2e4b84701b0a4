-- The lines of an input, and their words.
use Rattle.std.specs.Prelude.{ℕ, zero, suc, ◌+◌, ◌==◌, ◌||◌, ◌&&◌, ◌/◌, ◌%◌, nat_eq, nat_le, nat_lt, Bool, List, [], ◌∷◌, take, codes, if◌then◌else◌}
use Rattle.std.specs.List.{starts_with, slice_split, before_first, after_first, flat_map}

-- what is between line feeds: line n, counted from 1, is the n-th part
abbrev pub lines_of : List ℕ → List (List ℕ)
lines_of bytes = slice_split (λ b. b == 10) bytes

abbrev pub first_word : List ℕ → List ℕ
first_word line = before_first (λ b. b == 32) line

-- what comes after the first word and its blank
abbrev pub behind_word : List ℕ → List ℕ
behind_word line = after_first (λ b. b == 32) line

-- the word after k others
abbrev pub word_at : ℕ → List ℕ → List ℕ
word_at zero line = first_word line
word_at (suc k) line = word_at k (behind_word line)

abbrev pub second_word : List ℕ → List ℕ
second_word line = first_word (behind_word line)

-- ---- what a line is

abbrev pub is_channel : List ℕ → Bool
is_channel line = starts_with nat_eq line (codes "channel ")

abbrev pub is_previous : List ℕ → Bool
is_previous line = starts_with nat_eq line (codes "previous ")

abbrev pub is_table : List ℕ → Bool
is_table line = starts_with nat_eq line (codes "table ")

abbrev pub is_transaction : List ℕ → Bool
is_transaction line = starts_with nat_eq line (codes "txn ")

abbrev pub is_change : List ℕ → Bool
is_change line = starts_with nat_eq line (codes "ins ") || (starts_with nat_eq line (codes "upd ") || starts_with nat_eq line (codes "del "))

-- ---- how a line is shown

-- the digit of a number below 16
abbrev pub hex_digit : ℕ → ℕ
hex_digit n = if nat_lt n 10 then 48 + n else 87 + n

-- what is no printed character of ASCII is shown by its two hexadecimal digits
abbrev pub shown_byte : ℕ → List ℕ
shown_byte b = if nat_le 32 b && nat_lt b 127 then b ∷ [] else 92 ∷ 120 ∷ hex_digit (b / 16) ∷ hex_digit (b % 16) ∷ []

-- the first 120 bytes of a line
abbrev pub shorten : List ℕ → List ℕ
shorten line = flat_map shown_byte (take 120 line)
