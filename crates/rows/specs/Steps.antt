-- Steps that were made in place, and the entries without them.
use Rattle.std.specs.Prelude.{◌≡◌, ℕ, ◌-◌, Bool, true, ◌&&◌, ◌==◌, ⊤, List, [], ◌∷◌, length, take, nat_lt, Option, Some, None, IsSomeAnd, if◌then◌else◌}
use Rattle.std.specs.List.{swap}
use Rattle.std.specs.Ordering.{nat_cmp, eq_by_cmp}
use Rattle.std.specs.Cmp.Lexicographic.{slice_cmp}
use Rattle.indexmap.specs.IndexMap.{insert_entry, set_value_at}
use Rattle.row_images.specs.declared.value.Value.{Value}
use Rattle.row_images.specs.Order.{row_eq}
use Rattle.std.specs.FinMap.{from_entries}
use Rattle.rows.specs.declared.change.Key.{Key}
use Rattle.rows.specs.Order.{key_cmp}
use Rattle.rows.specs.Keys.{values_in}
use Rattle.rows.specs.declared.schema.Table.{Table}
use Rattle.rows.specs.Apply.{Rows, with_row, first_taken}
use Rattle.rows.specs.declared.steps.EntryStep.{EntryStep}
use Rattle.rows.specs.declared.steps.EntryStep.TheVariants.{Added, Wrote, Removed}
use Rattle.rows.specs.declared.steps.Expected.{Expected}
use Rattle.rows.specs.declared.steps.Expected.TheVariants.{Nothing, This, Anything}

abbrev pub Entries : Type 0
Entries = List (Key × List Value)

abbrev pub rows_in : Entries → Rows
rows_in es = from_entries {R = key_cmp} es

-- the test of a table's keys
abbrev pub same_key : Key → Key → Bool
same_key a b = eq_by_cmp (slice_cmp nat_cmp) a.table b.table && (a.index == b.index && row_eq a.values b.values)

-- the last entry and the one at a place in each other's place
abbrev pub moved_last : ℕ → Entries → Entries
moved_last place es = if nat_lt place (length es) then swap es place (length es - 1) else es

-- the entries without a step
abbrev pub undone : EntryStep → Entries → Entries
undone Added es = take (length es - 1) es
undone (Wrote place row) es = set_value_at es place row
undone (Removed place key row) es = moved_last place (insert_entry same_key es key row)

-- and without all of them, the last first
abbrev pub all_undone : List EntryStep → Entries → Entries
all_undone [] es = es
all_undone (step ∷ log) es = undone step (all_undone log es)

-- what an insert did that found this place, and a row there or none
abbrev pub step_of : ℕ → Option (List Value) → EntryStep
step_of place None = Added
step_of place (Some row) = Wrote place row

-- a row that has to be under a key, or none
abbrev pub IsExpected : Expected → Option (List Value) → Type 0
IsExpected Nothing over = over ≡ None
IsExpected (This row) over = IsSomeAnd over (λ found. row_eq found row.now ≡ true)
IsExpected Anything over = ⊤

-- the primary key of a row
abbrev pub primary_key : Table → List Value → Key
primary_key table row = record { table = table.name; index = 0; values = values_in table.primary row }

-- The row is under each of these keys, which were free where they had to be.
abbrev pub IsPlaced : Bool → List Key → List Value → Rows → Rows → Type 0
IsPlaced free keys row old new = (new ≡ with_row keys row old) × (free ≡ true → first_taken keys old ≡ None)

-- what has to be under a unique key
abbrev pub expected_if : Bool → Expected
expected_if free = if free then Nothing else Anything
