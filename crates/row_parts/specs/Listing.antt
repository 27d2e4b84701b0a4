-- The rows of parts, listed together.
use Rattle.std.specs.Prelude.{◌≡◌, not, ℕ, zero, suc, List, [], ◌++◌, map, filter, Option, Some, None, slice_get}
use Rattle.std.specs.FinMap.{get}
use Rattle.std.specs.List.{list_all}
use Rattle.row_images.specs.declared.value.Value.{Value}
use Rattle.rows.specs.Apply.{Rows}
use Rattle.rows.specs.Database.{Database}
use Rattle.rows.specs.declared.change.Key.{Key}
use Rattle.rows.specs.Listing.{entries_listed, rows_of, rows_listed}
use Rattle.rows.specs.Parts.{AreParts}
use Rattle.rows.specs.Patch.{same_row}

-- the rows of each part
abbrev pub rows_in_each : List Database → List Rows
rows_in_each parts = map (λ p. p.rows) parts

-- the rows of a part that the opening rows don't have
abbrev pub changed_entries : Rows → Rows → List (Key × List Value)
changed_entries opening part = filter (λ e. not (same_row (get opening e.0) (Some e.1))) (entries_listed part)

-- the opening rows that each part still has
abbrev pub kept_entries : Rows → List Rows → List (Key × List Value)
kept_entries opening parts = filter (λ e. list_all (λ p. same_row (get p e.0) (Some e.1)) parts) (entries_listed opening)

-- what a part changed, if there is one, and else what is left of the opening rows
abbrev pub entries_of : Rows → List Rows → Option Rows → List (Key × List Value)
entries_of opening parts (Some part) = changed_entries opening part
entries_of opening parts None = kept_entries opening parts

-- the same by its place: behind the places of all parts is no part
abbrev pub entries_at : Rows → List Rows → ℕ → List (Key × List Value)
entries_at opening parts place = entries_of opening parts (slice_get parts place)

-- this many of the first lists, one after another
abbrev pub joined_before : {A : Type 0} → (ℕ → List A) → ℕ → List A
joined_before lists zero = []
joined_before lists (suc n) = joined_before lists n ++ lists n

-- this list has the rows of each whole that the parts make of the opening rows
abbrev pub ListsWhole : Rows → List Rows → List (Key × List Value) → Type 0
ListsWhole opening parts list = (whole : Rows) → AreParts opening parts whole → rows_of list ≡ rows_listed whole
