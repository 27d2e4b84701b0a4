-- The printed lines of a state. The words and their order are our own.
use Rattle.std.specs.Prelude.{◌≡◌, ℕ, ◌-◌, Bool, nat_lt, List, [], ◌∷◌, ◌++◌, length, take, Option, Some, None, codes, flat_map}
use Rattle.std.specs.List.{list_any}
use Rattle.gtid_set.specs.Sets.{Gtids}
use Rattle.row_images.specs.declared.value.Value.{Value}
use Rattle.rows.specs.declared.change.TableRow.{TableRow}
use Rattle.rows.specs.declared.schema.Table.{Table}
use Rattle.rows.specs.Apply.{Rows}
use Rattle.rows.specs.Keys.{find_table}
use Rattle.rows.specs.Listing.{rows_listed}
use Rattle.row_images.specs.Values.{value_text}
use Rattle.txn_journal.specs.WrittenSets.{set_text}

-- the words of values, each after a blank
abbrev pub values_text : List Value → List ℕ
values_text values = flat_map (λ v. 32 ∷ value_text v) values

-- a row's values without the last, which are those of its table's hidden columns
abbrev pub shown_values : Option Table → List Value → List Value
shown_values None row = row
shown_values (Some table) row = take (length row - table.hidden) row

-- the line of a row of one of these tables
abbrev pub row_line : List Table → TableRow → List ℕ
row_line schema r = codes "row " ++ r.table ++ values_text (shown_values (find_table r.table schema) r.row) ++ 10 ∷ []

-- the lines of rows of these tables
abbrev pub rows_text : List Table → List TableRow → List ℕ
rows_text schema rows = flat_map (row_line schema) rows

abbrev pub executed_line : Gtids → List ℕ
executed_line executed = codes "executed " ++ set_text executed ++ 10 ∷ []

-- the executed set, and the rows by table name and then by primary key
abbrev pub state_text : List Table → Gtids → Rows → List ℕ
state_text schema executed rows = executed_line executed ++ rows_text schema (rows_listed rows)

-- ---- which rows are shown alike

abbrev pub hides_columns : List Table → Bool
hides_columns schema = list_any (λ (table : Table). nat_lt 0 table.hidden) schema

-- both tables, or none, show the same of each row
abbrev pub ShowAlike : Option Table → Option Table → Type 0
ShowAlike a b = (row : List Value) → shown_values a row ≡ shown_values b row
