-- What a rows event tells: that it comes, and the change of each of its rows. Each image has all columns.
use Rattle.std.specs.Prelude.{ℕ, ◌==◌, ◌||◌, ◌&&◌, ◌%◌, not, is_some, Bool, List, [], ◌∷◌, slice_index, Option, Some, None, Result, Ok, Err, if◌then◌else◌}
use Rattle.std.specs.List.{list_all, flat_map}
use Rattle.row_images.specs.declared.value.Value.{Value}
use Rattle.rows.specs.declared.change.Change.{Change}
use Rattle.rows.specs.declared.change.Change.TheVariants as changes
use Rattle.log_transactions.specs.Events.{Event, Rows, Row}
use Rattle.log_transactions.specs.Tables.{table_name}
use Rattle.log_transactions.specs.declared.fault.EventRefusal.TheVariants.{Table}
use Rattle.binlog_rows.specs.Reading.{Image, RowsRead, rows_read}
use Rattle.binlog_files.specs.Tables.{TableOf}
use Rattle.binlog_files.specs.declared.fault.FileRefusal.{FileRefusal}
use Rattle.binlog_files.specs.declared.fault.FileRefusal.TheVariants as refusals

-- WRITE, UPDATE and DELETE, of version 1 and of version 2
abbrev pub is_write : ℕ → Bool
is_write kind = (kind == 23) || (kind == 30)

abbrev pub is_update : ℕ → Bool
is_update kind = (kind == 24) || (kind == 31)

abbrev pub is_delete : ℕ → Bool
is_delete kind = (kind == 25) || (kind == 32)

abbrev pub is_rows : ℕ → Bool
is_rows kind = is_write kind || (is_update kind || is_delete kind)

-- each value of an image has a form in a bundle
abbrev pub has_values : Image → Bool
has_values image = list_all is_some image

abbrev pub held : Option Value → List Value
held None = []
held (Some v) = v ∷ []

-- the values of an image, those that have a form
abbrev pub values_of : Image → List Value
values_of image = flat_map held image

abbrev pub made : ℕ → List ℕ → List Value → List Value → Change
made kind table first second =
    if is_update kind then changes.Update table first second
    else if is_write kind then changes.Insert table first
    else changes.Delete table first

-- the change of a row
abbrev pub change_of : ℕ → List ℕ → Image × Image → Change
change_of kind table row = made kind table (values_of row.0) (values_of row.1)

-- what a row tells
abbrev pub row_told : ℕ → List ℕ → Image × Image → Result (List Event) FileRefusal
row_told kind table row = Ok (Row (change_of kind table row) ∷ [])

abbrev pub row_events : ℕ → List ℕ → List (Image × Image) → List Event
row_events kind table [] = []
row_events kind table (row ∷ rows) = Row (change_of kind table row) ∷ row_events kind table rows

abbrev pub row_has_values : Image × Image → Bool
row_has_values row = has_values row.0 && has_values row.1

abbrev pub rows_have_values : List (Image × Image) → Bool
rows_have_values rows = list_all row_has_values rows

abbrev pub rows_told : ℕ → Bool → List ℕ → List (Image × Image) → Result (List Event) FileRefusal
rows_told kind ends table rows = if rows_have_values rows then Ok (Rows ends ∷ row_events kind table rows) else Err refusals.Value

-- each image has all columns: UPDATE has two
abbrev pub has_all : ℕ → RowsRead → Bool
has_all kind r = list_all (λ b. b) r.first && (not (is_update kind) || list_all (λ b. b) r.second)

abbrev pub read_told : ℕ → Bool → List ℕ → Option RowsRead → Result (List Event) FileRefusal
read_told kind ends table None = Err refusals.Format
read_told kind ends table (Some r) = if has_all kind r then rows_told kind ends table r.rows else Err refusals.Partial

-- a table without a name has no rows here
abbrev pub named_told : ℕ → List ℕ → TableOf → Option (List ℕ) → Result (List Event) FileRefusal
named_told kind body t None = Err (refusals.Event Table)
named_told kind body t (Some name) = read_told kind (slice_index body 6 % 2 == 1) name (rows_read kind t.columns body)

-- what a rows event tells that names this table, if its id is mapped
abbrev pub rows_of_told : ℕ → List ℕ → Option TableOf → Result (List Event) FileRefusal
rows_of_told kind body None = Err (refusals.Event Table)
rows_of_told kind body (Some t) = named_told kind body t (table_name t.database t.table)
