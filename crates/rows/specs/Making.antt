-- Rows that are changed in place, and the way back.
use Rattle.std.specs.Prelude.{◌≡◌, ℕ, Bool, true, ◌&&◌, List, [], ◌∷◌, ◌++◌, slice_index_or, Option, Some, None, Result, refl}
use Rattle.std.specs.List.{list_all}
use Rattle.std.specs.Ordering.{eq_by_cmp}
use Rattle.std.specs.Coded.{Coded, code_by, coded×}
use Rattle.rows.specs.declared.patch.Seen.{Seen}
use Rattle.rows.specs.declared.change.Key.{Key}
use Rattle.rows.specs.declared.change.RowFault.{RowFault}
use Rattle.row_images.specs.declared.value.Value.{Value}
use Rattle.row_images.specs.declared.value.Value.TheVariants.{Null}
use Rattle.row_images.specs.Order.{value_cmp}
use Rattle.rows.specs.declared.schema.Table.{Table}
use Rattle.rows.specs.Apply.{Rows, ◌>>=◌, with_row, first_taken, insert_row, delete_row}
use Rattle.rows.specs.Coding.{rows_code}
use Rattle.rows.specs.Patch.{put}

-- what was under each of these keys, put back, the last first
abbrev pub put_back : List Seen → Rows → Rows
put_back [] rows = rows
put_back (s ∷ log) rows = put s.key s.row (put_back log rows)

-- the rows that were made so far, and those from before
pub record Course : Type 0 where
  pub made : Rows
  pub before : Rows

abbrev pub course_code : Coded Course
course_code = code_by (Rows × Rows) (coded× rows_code rows_code) (λ c. (c.made, c.before)) (λ p. record { made = p.0; before = p.1 }) (λ _. refl)

-- an update by the keys of both images
abbrev pub update_row : ℕ → List Key → List Value → List Key → List Value → Rows → Result Rows RowFault
update_row n keys before keys_after after rows = delete_row n keys before rows >>= insert_row n keys_after after

-- ---- an insert

-- These keys were free, and the row is under each of them.
abbrev pub IsPut : List Key → List Value → Rows → Rows → Type 0
IsPut keys row old new = (new ≡ with_row keys row old) × (first_taken keys old ≡ None)

-- the entries of before, and more after them
abbrev pub Extends : List (Key × List Value) → List (Key × List Value) → Type 0
Extends old new = (more : List (Key × List Value)) × (new ≡ old ++ more)

-- ---- an update whose keys stay

-- both rows have the same values in these columns
abbrev pub same_in : List Value → List Value → List ℕ → Bool
same_in a b columns = list_all (λ column. eq_by_cmp value_cmp (slice_index_or a column Null) (slice_index_or b column Null)) columns

-- and so in all columns of keys
abbrev pub keeps_keys : List Value → List Value → Option Table → Bool
keeps_keys a b None = true
keeps_keys a b (Some table) = same_in a b table.primary && list_all (same_in a b) table.uniques
