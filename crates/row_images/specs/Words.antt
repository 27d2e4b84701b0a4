-- Words, the text of numbers, and names.
use Rattle.std.specs.Prelude.{ℕ, ◌^◌, Bool, true, false, ◌&&◌, ◌||◌, length, slice_index, List, [], ◌∷◌, Option, Some, None, ◌==◌, nat_lt, if◌then◌else◌}
use Rattle.std.specs.Char.{is_ascii_digit}
use Rattle.std.specs.List.{list_all}
use Rattle.std.specs.Str.Parse.{digits_value}

-- not empty, with no zero before others
abbrev pub begins_well : List ℕ → Bool
begins_well word = if (length word == 0) || (nat_lt 1 (length word) && (slice_index word 0 == 48)) then false else true

-- decimal digits, with no zero before others
abbrev pub is_count : List ℕ → Bool
is_count word =
    if (length word == 0) || (nat_lt 1 (length word) && (slice_index word 0 == 48)) then false
    else list_all is_ascii_digit word

-- the number that a word parses as, below 2 ^ 64
abbrev pub count_of : List ℕ → Option ℕ
count_of word = if is_count word && nat_lt (digits_value 10 word) (2 ^ 64) then Some (digits_value 10 word) else None

-- the bytes before the first blank, and those after it
abbrev pub first_word : List ℕ → List ℕ
first_word [] = []
first_word (b ∷ bs) = if b == 32 then [] else b ∷ first_word bs

abbrev pub others : List ℕ → Option (List ℕ)
others [] = None
others (b ∷ bs) = if b == 32 then Some bs else others bs
