-- The lines of the rows of a rows event, one behind the other. The lines are our own; their words are those of a journal.
use Rattle.std.specs.Prelude.{ℕ, ◌==◌, ◌||◌, Bool, true, false, List, [], ◌∷◌, ◌++◌, Option, Some, None, codes, if◌then◌else◌}
use Rattle.std.specs.List.{flat_map}
use Rattle.row_images.specs.declared.value.Value.{Value}
use Rattle.row_images.specs.Values.{value_text}
use Rattle.binlog_rows.specs.declared.columns.MappedColumn.{MappedColumn}
use Rattle.binlog_rows.specs.Rows.{is_update}
use Rattle.binlog_rows.specs.Reading.{Image, RowsRead, rows_read}
use Rattle.binlog_events.specs.Bodies.{rows_id}
use Rattle.binlog_events.specs.Names.{Described, Names}
use Rattle.binlog_events.specs.declared.row_lines.EventDetail.{EventDetail}
use Rattle.binlog_events.specs.declared.row_lines.EventDetail.TheVariants.{Line, Rows}

-- a value; `?` where its bytes have none
abbrev pub value_said : Option Value → List ℕ
value_said None = codes "?"
value_said (Some v) = value_text v

-- a word for each column of the table, with a blank before it: `-` where the image doesn't have the column
unfoldable pub image_text : List Bool → Image → List ℕ
image_text [] values = []
image_text (false ∷ flags) values = codes " -" ++ image_text flags values
image_text (true ∷ flags) [] = []
image_text (true ∷ flags) (v ∷ values) = (32 ∷ value_said v) ++ image_text flags values

-- WRITE, UPDATE or DELETE
abbrev pub row_word : ℕ → List ℕ
row_word kind =
    if (kind == 23) || (kind == 30) then codes "  ins "
    else if is_update kind then codes "  upd "
    else codes "  del "

-- the second image, which only UPDATE has
abbrev pub second_text : Bool → List Bool → Image → List ℕ
second_text true flags values = codes " |" ++ image_text flags values
second_text false flags values = []

-- the word, the table's name, and the values of the images
abbrev pub row_line : ℕ → List ℕ → List Bool → List Bool → Image × Image → List ℕ
row_line kind name first second row =
    row_word kind ++ (name ++ (image_text first row.0 ++ (second_text (is_update kind) second row.1 ++ 10 ∷ [])))

-- no lines where the body is not in the form
abbrev pub row_lines : ℕ → List ℕ → Option RowsRead → List ℕ
row_lines kind name None = []
row_lines kind name (Some read) = flat_map (row_line kind name read.first read.second) read.rows

abbrev pub lines_by_columns : ℕ → List ℕ → List ℕ → Option (List MappedColumn) → List ℕ
lines_by_columns kind body name None = []
lines_by_columns kind body name (Some columns) = row_lines kind name (rows_read kind columns body)

abbrev pub lines_by_table : ℕ → List ℕ → Option Described → List ℕ
lines_by_table kind body None = []
lines_by_table kind body (Some t) = lines_by_columns kind body t.name t.columns

abbrev pub lines_by_id : Names → ℕ → List ℕ → Option ℕ → List ℕ
lines_by_id names kind body None = []
lines_by_id names kind body (Some id) = lines_by_table kind body (names id)

-- the lines of the rows of an event, if they are asked for
unfoldable pub rows_beneath : EventDetail → Names → ℕ → List ℕ → List ℕ
rows_beneath Line names kind body = []
rows_beneath Rows names kind body = lines_by_id names kind body (rows_id body)
