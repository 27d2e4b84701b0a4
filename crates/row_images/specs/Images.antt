-- An image of a row, and its one text.
use Rattle.std.specs.Prelude.{ℕ, List, [], ◌∷◌, ◌++◌, map, Option, Some, None, option_map}
use Rattle.std.specs.List.{AllByRecursion}
use Rattle.std.specs.Option.{unwrap_or}
use Rattle.row_images.specs.declared.value.Value.{Value}
use Rattle.row_images.specs.Parts.{parts_of, joined_by}
use Rattle.row_images.specs.Values.{value_text, value_of, FitsValue}

-- the words between blanks
abbrev pub words_of : List ℕ → List (List ℕ)
words_of text = parts_of 32 text

-- values with a blank between
abbrev pub values_text : List Value → List ℕ
values_text vs = joined_by 32 (map value_text vs)

-- values, each after a blank
abbrev pub values_behind : List Value → List ℕ
values_behind [] = []
values_behind (v ∷ vs) = 32 ∷ (value_text v ++ values_behind vs)

-- numbers of 64 bits, and bytes
abbrev pub AreValues : List Value → Type 0
AreValues image = AllByRecursion FitsValue image

abbrev pub and_others : Option Value → Option (List Value) → Option (List Value)
and_others None others = None
and_others (Some v) others = option_map (λ vs. v ∷ vs) others

-- the values of these words, if each is the word of one
abbrev pub values_of : List (List ℕ) → Option (List Value)
values_of [] = Some []
values_of (w ∷ ws) = and_others (value_of w) (values_of ws)

-- the values that a text has
abbrev pub image_of : List ℕ → Option (List Value)
image_of text = values_of (words_of text)

-- those, or none
abbrev pub values_in : List ℕ → List Value
values_in text = unwrap_or (image_of text) []
