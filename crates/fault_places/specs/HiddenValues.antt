-- Change lines without the values of hidden columns.
use Rattle.std.specs.Prelude.{ℕ, ◌+◌, ◌-◌, ◌==◌, nat_eq, Bool, List, [], ◌++◌, take, Option, Some, None, codes, if◌then◌else◌}
use Rattle.std.specs.List.{starts_with, slice_split, after_first, join_with_byte}
use Rattle.rows.specs.declared.schema.Table.{Table}
use Rattle.rows.specs.Keys.{find_table}
use Rattle.fault_places.specs.Lines.{second_word, behind_word}

-- the first words of a text, this many
abbrev pub first_words : ℕ → List ℕ → List ℕ
first_words count text = join_with_byte 32 (take count (slice_split (λ b. b == 32) text))

abbrev pub is_update : List ℕ → Bool
is_update line = starts_with nat_eq line (codes "upd ")

-- the after image of an update, which comes after ` | `
abbrev pub second_image : List ℕ → List ℕ
second_image line = behind_word (after_first (λ b. b == 124) line)

-- the first values of the after image of an update, this many; other changes have one image
abbrev pub second_values : ℕ → List ℕ → List ℕ
second_values count line = if is_update line then codes " | " ++ first_words count (second_image line) else []

-- a change line with the first values of each image, this many
abbrev pub first_values : ℕ → List ℕ → List ℕ
first_values count line = first_words (2 + count) line ++ second_values count line

-- how many columns of a table are shown, if it hides some
abbrev pub shown_columns : Option Table → Option ℕ
shown_columns None = None
shown_columns (Some table) = if table.hidden == 0 then None else Some (table.columns - table.hidden)

-- a change line with the values of the columns that are shown; all are, where no number of them is given
abbrev pub shown_line : Option ℕ → List ℕ → List ℕ
shown_line None line = line
shown_line (Some count) line = first_values count line

-- a change line without the values of the columns that its table hides
abbrev pub without_hidden : List Table → List ℕ → List ℕ
without_hidden tables line = shown_line (shown_columns (find_table (second_word line) tables)) line
