-- What each line is read as.
use Rattle.std.specs.Prelude.{ℕ, ◌==◌, Bool, true, false, ◌∷◌, [], List, Option, Some, None, codes, if◌then◌else◌}
use Rattle.std.specs.Str.{bytes_eq}
use Rattle.row_images.specs.Words.{count_of}
use Rattle.binlog_text.specs.Tokens.{after_prefix, cut_at, last_cut, nothing_in, ◌>>=◌}
use Rattle.binlog_text.specs.Lines.{Content, OfMark, OfHead, OfTable, OfColumn, OfGtid, OfSources, OfRow, OfValue, event_text, rows_text, ends_statement, operation_text, begins_with_digit, begins, is_comment, is_source, is_setting, is_savepoint, is_frame, is_maintenance}
use Rattle.binlog_text.specs.declared.lines.RowOperation.{RowOperation}
use Rattle.binlog_text.specs.declared.lines.RowOperation.TheVariants as operations
use Rattle.binlog_text.specs.declared.lines.LogEvent.{LogEvent}
use Rattle.binlog_text.specs.declared.lines.LogEvent.TheVariants as events
use Rattle.binlog_text.specs.declared.lines.Mark.TheVariants as marks

-- by what follows a prefix, or by another way
abbrev pub branch : {A : Type 0} → Option (List ℕ) → (List ℕ → Option A) → Option A → Option A
branch None f other = other
branch (Some rest) f other = f rest

-- ---- rows

-- a table, and what follows it
abbrev pub table_at : List ℕ → Option (List ℕ × List ℕ × List ℕ)
table_at text = do
  first ← after_prefix (96 ∷ []) text
  database ← cut_at 96 first
  second ← after_prefix (46 ∷ 96 ∷ []) database.1
  table ← cut_at 96 second
  Some (database.0, table.0, table.1)

abbrev pub row_at : RowOperation → List ℕ → Option Content
row_at operation text = do
  table ← table_at text
  _ ← nothing_in table.2
  Some (OfRow operation table.0 table.1)

abbrev pub assignment_at : List ℕ → Option Content
assignment_at text = do
  parts ← cut_at 61 text
  n ← count_of parts.0
  Some (OfValue n parts.1)

abbrev pub row_line : List ℕ → Option Content
row_line text =
    branch (after_prefix (codes "  @") text) assignment_at (
    branch (after_prefix (operation_text operations.Insert) text) (row_at operations.Insert) (
    branch (after_prefix (operation_text operations.Update) text) (row_at operations.Update) (
    branch (after_prefix (operation_text operations.Delete) text) (row_at operations.Delete) (
    if bytes_eq text (codes "WHERE") then Some (OfMark marks.Where)
    else if bytes_eq text (codes "SET") then Some (OfMark marks.Set)
    else if begins (codes "Extra row info for partitioning: ") text then Some (OfMark marks.Extra)
    else None))))

-- ---- comments

abbrev pub is_last_at : ℕ → Option Bool
is_last_at b = if b == 41 then Some true else if b == 44 then Some false else None

abbrev pub name_at : List ℕ → Option (List ℕ × List ℕ)
name_at text = do
  name ← cut_at 96 text
  type ← after_prefix (32 ∷ []) name.1
  Some (name.0, type)

abbrev pub column : Bool → Bool → Option (List ℕ) → List ℕ → Content
column is_first is_last name type = OfColumn (record { is_first = is_first; name = name; column_type = type; is_last = is_last })

abbrev pub column_at : Bool → List ℕ → Option Content
column_at is_first text = do
  parts ← last_cut text
  is_last ← is_last_at parts.1
  branch (after_prefix (96 ∷ []) parts.0)
      (λ rest. name_at rest >>= λ named. Some (column is_first is_last (Some named.0) named.1))
      (Some (column is_first is_last None parts.0))

abbrev pub sources : List ℕ → Bool → Option Content
sources text more = if is_source text then Some (OfSources text more) else None

abbrev pub sources_in : List ℕ → Option (List ℕ × ℕ) → Option Content
sources_in text None = None
sources_in text (Some parts) = if parts.1 == 44 then sources parts.0 true else sources text false

abbrev pub comment_line : List ℕ → Option Content
comment_line text =
    branch (after_prefix (codes "at ") text) (λ rest. Some (OfMark marks.Place)) (
    branch (after_prefix (codes "Columns(") text) (column_at true) (
    branch (after_prefix (codes "        ") text) (column_at false) (
    if is_comment text then Some (OfMark marks.Comment)
    else if bytes_eq text (codes "[empty]") then Some (OfMark marks.Empty)
    else if bytes_eq text (codes "End of log file") then Some (OfMark marks.Closed)
    else sources_in text (last_cut text))))

-- ---- heads of events

abbrev pub table_map_at : List ℕ → Option Content
table_map_at text = do
  table ← table_at text
  digits ← after_prefix (codes " mapped to number ") table.2
  _ ← count_of digits
  Some (OfTable table.0 table.1)

abbrev pub rows_event : RowOperation → List ℕ → Option LogEvent
rows_event operation rest = Some (events.Rows operation (ends_statement rest))

abbrev pub other_event : List ℕ → Option LogEvent
other_event text =
    if begins (event_text events.Xid) text then Some events.Xid
    else if begins (event_text events.Payload) text then Some events.Payload
    else if begins (event_text events.PreviousGtids) text then Some events.PreviousGtids
    else if begins (event_text events.Start) text then Some events.Start
    else if begins (event_text events.Rotate) text then Some events.Rotate
    else if begins (event_text events.Stop) text then Some events.Stop
    else None

abbrev pub event_of : List ℕ → Option LogEvent
event_of text =
    if begins (event_text events.Query) text then Some events.Query
    else if begins (event_text events.Gtid) text then Some events.Gtid
    else branch (after_prefix (rows_text operations.Insert) text) (rows_event operations.Insert) (
    branch (after_prefix (rows_text operations.Update) text) (rows_event operations.Update) (
    branch (after_prefix (rows_text operations.Delete) text) (rows_event operations.Delete) (
    other_event text)))

abbrev pub event_at : List ℕ → Option Content
event_at text = event_of text >>= λ event. Some (OfHead event)

abbrev pub content_at : List ℕ → Option Content
content_at text = branch (after_prefix (codes "Table_map: ") text) table_map_at (event_at text)

abbrev pub head_line : List ℕ → Option Content
head_line text = do
  parts ← cut_at 9 text
  if begins_with_digit parts.0 then content_at parts.1 else None

-- ---- the others

abbrev pub gtid_in : List ℕ → List ℕ → Option Content
gtid_in gtid rest =
    if bytes_eq rest (codes "/*!*/;") then Some (OfGtid gtid)
    else if bytes_eq gtid (codes "AUTOMATIC") then
    (if bytes_eq rest (codes " /* added by mysqlbinlog */ /*!*/;") then Some (OfMark marks.Automatic) else None)
    else None

abbrev pub gtid_at : List ℕ → Option Content
gtid_at text = cut_at 39 text >>= λ parts. gtid_in parts.0 parts.1

abbrev pub plain_line : List ℕ → Option Content
plain_line text =
    branch (after_prefix (codes "SET @@SESSION.GTID_NEXT= '") text) gtid_at (
    if bytes_eq text (codes "BEGIN") then Some (OfMark marks.Begin)
    else if bytes_eq text (codes "COMMIT") then Some (OfMark marks.Commit)
    else if bytes_eq text (codes "/*!*/;") then Some (OfMark marks.Ended)
    else if bytes_eq text (codes "COMMIT/*!*/;") then Some (OfMark marks.Committed)
    else if is_setting text then Some (OfMark marks.Setting)
    else if is_savepoint text then Some (OfMark marks.Savepoint)
    else if is_frame text then Some (OfMark marks.Frame)
    else if is_maintenance text then Some (OfMark marks.Maintenance)
    else None)

-- the content of a line
abbrev pub line_of : List ℕ → Option Content
line_of text =
    branch (after_prefix (codes "### ") text) row_line (
    branch (after_prefix (codes "# ") text) comment_line (
    branch (after_prefix (codes "#") text) head_line (
    plain_line text)))
