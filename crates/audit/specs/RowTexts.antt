-- The words of a row's values.
use Rattle.std.specs.Prelude.{◌≡◌, ℕ, List, [], ◌∷◌, slice_index_or}
use Rattle.row_images.specs.declared.value.Value.{Value}
use Rattle.row_images.specs.declared.value.Value.TheVariants.{Null}
use Rattle.row_images.specs.Images.{words_of}
use Rattle.row_images.specs.Values.{value_text}

-- those of a list, or if it has none, those of a text
abbrev pub words_held : List (List ℕ) → List ℕ → List (List ℕ)
words_held [] text = words_of text
words_held (word ∷ words) text = word ∷ words

-- the word in each column is that of the row's value; both are those of null past the last
abbrev pub AreWords : List (List ℕ) → List Value → Type 0
AreWords words row = (column : ℕ) → slice_index_or words column (value_text Null) ≡ value_text (slice_index_or row column Null)
