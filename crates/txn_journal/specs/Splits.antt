-- Lists of column numbers.
use Rattle.std.specs.Prelude.{ℕ, Bool, true, false, not, ◌&&◌, ◌||◌, List, [], ◌∷◌, decimal}
use Rattle.std.specs.List.{list_all}
use Rattle.std.specs.Str.{bytes_eq}
use Rattle.row_images.specs.Words.{is_count}
use Rattle.row_images.specs.Parts.{parts_of, joined_by}

-- each word is new: neither among those seen nor one that came earlier
unfoldable pub are_new_to : (List ℕ → Bool) → List (List ℕ) → Bool
are_new_to seen [] = true
are_new_to seen (w ∷ ws) = not (seen w) && are_new_to (λ v. bytes_eq v w || seen v) ws

-- numbers of any length, no number twice
abbrev pub are_columns : List (List ℕ) → Bool
are_columns words = list_all is_count words && are_new_to (λ v. false) words

-- numbers joined by commas
abbrev pub is_columns_text : List ℕ → Bool
is_columns_text text = are_columns (parts_of 44 text)

-- the numbers of columns as words
abbrev pub column_words : List ℕ → List (List ℕ)
column_words [] = []
column_words (c ∷ cs) = decimal c ∷ column_words cs

abbrev pub columns_text : List ℕ → List ℕ
columns_text columns = joined_by 44 (column_words columns)
