-- What a pass over a row's text gives.
use Rattle.std.specs.Prelude.{◌≡◌, ℕ, ◌<◌, Bool, false, List, [], drop, length, slice_index_or, Option, Some, None}
use Rattle.std.specs.Ordering.{eq_by_cmp}
use Rattle.row_images.specs.declared.value.Value.{Value}
use Rattle.row_images.specs.declared.value.Value.TheVariants.{Null}
use Rattle.row_images.specs.Order.{value_cmp}
use Rattle.row_images.specs.Images.{words_of}
use Rattle.row_images.specs.Values.{is_null}

-- the words of the text that is left, if one is
abbrev pub words_left : Option (List ℕ) → List (List ℕ)
words_left None = []
words_left (Some text) = words_of text

-- all but the first
abbrev pub behind_first : List (List ℕ) → List (List ℕ)
behind_first ws = drop 1 ws

-- ---- marks of columns, from the first on

-- those whose value is null or missing
abbrev pub AreNulls : List Bool → List Value → Type 0
AreNulls marks row = (k : ℕ) → k < length marks → slice_index_or marks k false ≡ is_null (slice_index_or row k Null)

-- those in which both rows have the same value, which is null past the last
abbrev pub AreSame : List Bool → List Value → List Value → Type 0
AreSame marks a b = (k : ℕ) → k < length marks → slice_index_or marks k false ≡ eq_by_cmp value_cmp (slice_index_or a k Null) (slice_index_or b k Null)
