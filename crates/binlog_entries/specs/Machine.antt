-- What lines make, one after another: events of the log, and the types of columns and the row that are open.
use Rattle.std.specs.Prelude.{◌≡◌, ◌⊎◌, ℕ, ◌+◌, ◌==◌, ◌&&◌, not, is_some, Bool, true, false, List, [], ◌∷◌, ◌++◌, length, Option, Some, None, Result, Ok, Err, if◌then◌else◌}
use Rattle.gtid_text.specs.declared.Gtid.{Gtid}
use Rattle.std.specs.FinSet as set
use Rattle.gtid_set.specs.declared.fault.SetFault.{SetFault}
use Rattle.gtid_set.specs.declared.fault.SetFault.TheVariants.{Memory}
use Rattle.gtid_set.specs.Full.{HasManySources, HasManyIntervals, IsMemoryOr}
use Rattle.gtid_set.specs.Sets.{Gtids}
use Rattle.journal_words.specs.Gtids.{gtid_of_word, set_of_word}
use Rattle.row_images.specs.declared.value.Value.{Value}
use Rattle.rows.specs.declared.change.Change.{Change}
use Rattle.rows.specs.declared.change.Change.TheVariants as changes
use Rattle.log_transactions.specs.Events.{Event}
use Rattle.log_transactions.specs.Events as logged
use Rattle.log_transactions.specs.Machine.{LogState, OfJoined, has_table}
use Rattle.log_transactions.specs.Machine as transactions
use Rattle.log_transactions.specs.Tables.{joined_name, table_name}
use Rattle.log_transactions.specs.declared.fault.EventRefusal.{EventRefusal}
use Rattle.binlog_text.specs.declared.types.ColumnType.{ColumnType}
use Rattle.binlog_text.specs.Types.{compares_bytes, collation_in, parse_type}
use Rattle.binlog_text.specs.Values.{value_at}
use Rattle.binlog_text.specs.declared.lines.LogEvent.{LogEvent}
use Rattle.binlog_text.specs.declared.lines.LogEvent.TheVariants as events
use Rattle.binlog_text.specs.declared.lines.Mark.{Mark}
use Rattle.binlog_text.specs.declared.lines.Mark.TheVariants as marks
use Rattle.binlog_text.specs.declared.lines.RowOperation.{RowOperation}
use Rattle.binlog_text.specs.declared.lines.RowOperation.TheVariants as operations
use Rattle.binlog_text.specs.Lines.{Column, Content, OfMark, OfHead, OfTable, OfColumn, OfGtid, OfSources, OfRow, OfValue}
use Rattle.binlog_text.specs.Reading.{line_of}
use Rattle.binlog_entries.specs.Tables.{Table, find_table, type_at}
use Rattle.binlog_entries.specs.Bodies.{kind_of, takes, next_body}
use Rattle.binlog_entries.specs.Unread.{refusal_at, refusal_of}
use Rattle.binlog_entries.specs.Refusals.{refusal_of_event}
use Rattle.binlog_entries.specs.declared.bodies.Body.{Body}
use Rattle.binlog_entries.specs.declared.bodies.Body.TheVariants as bodies
use Rattle.binlog_entries.specs.declared.draft.RowPart.{RowPart}
use Rattle.binlog_entries.specs.declared.draft.RowPart.TheVariants as parts
use Rattle.binlog_entries.specs.declared.fault.EntryFault.{EntryFault}
use Rattle.binlog_entries.specs.declared.fault.EntryFault.TheVariants as faults
use Rattle.binlog_entries.specs.declared.fault.EntryRefusal.{EntryRefusal}
use Rattle.binlog_entries.specs.declared.fault.EntryRefusal.TheVariants as refusals

infixl 10 ◌>>=◌
abbrev pub ◌>>=◌ : {A B : Type 0} → Result A EntryRefusal → (A → Result B EntryRefusal) → Result B EntryRefusal
(Ok x) >>= f = f x
(Err e) >>= f = Err e

abbrev pub or_refused : {A : Type 0} → EntryRefusal → Option A → Result A EntryRefusal
or_refused refusal None = Err refusal
or_refused refusal (Some x) = Ok x

-- What a call did is what judging gives, or there was a fault that may be, though nothing is wrong.
abbrev pub TakesOr : {S : Type 0} → (SetFault → Type 0) → Result (Unit {0}) EntryFault → Result S EntryRefusal → S → Type 0
TakesOr may (Ok _) judged new = judged ≡ Ok new
TakesOr may (Err (faults.Refused refusal)) judged new = judged ≡ Err refusal
TakesOr may (Err (faults.Set fault)) judged new = may fault

-- the same of a call that asks for nothing
abbrev pub Takes : {S : Type 0} → Result (Unit {0}) EntryFault → Result S EntryRefusal → S → Type 0
Takes result judged new = TakesOr (λ fault. ⊥) result judged new

-- the same of one that asks for memory alone
abbrev pub TakesOrMemory : {S : Type 0} → Result (Unit {0}) EntryFault → Result S EntryRefusal → S → Type 0
TakesOrMemory result judged new = TakesOr (λ fault. fault ≡ Memory) result judged new

-- What a call found is what reading gives, unless memory ran out.
abbrev pub Finds : {X Y : Type 0} → (X → Y) → Result X EntryFault → Result Y EntryRefusal → Type 0
Finds view (Ok x) read = read ≡ Ok (view x)
Finds view (Err (faults.Refused refusal)) read = read ≡ Err refusal
Finds view (Err (faults.Set fault)) read = fault ≡ Memory

-- how far the lines have come
pub record Standing : Type 0 where
  pub body : Body
  -- rows of the statement have come, so that the next table is another statement's
  pub is_over : Bool
  -- the table whose columns come, and those that the statement has mapped before
  pub mapping : Option Table
  pub tables : List Table
  -- the row that is open, by its table, what is done to it, and what has come of its images
  pub row : Option (List ℕ)
  pub operation : RowOperation
  pub part : RowPart
  pub before : List Value
  pub after : List Value
  -- what the lines told so far
  pub log : LogState

-- ---- what the log is told

abbrev pub told_by : Option EventRefusal → Standing → Event → Result Standing EntryRefusal
told_by None s e = Ok (record s { log = transactions.behind s.log e })
told_by (Some refusal) s e = Err (refusal_of_event refusal)

-- the log is told an event
abbrev pub tell : Standing → Event → Result Standing EntryRefusal
tell s e = told_by (transactions.refusal s.log e) s e

-- ---- rows

-- an image has a value for each column, and there are those that the operation has
abbrev pub is_whole : RowOperation → RowPart → ℕ → ℕ → ℕ → Bool
is_whole operations.Insert parts.After before after columns = after == columns
is_whole operations.Delete parts.Before before after columns = before == columns
is_whole operations.Update parts.After before after columns = (before == columns) && (after == columns)
is_whole _ _ before after columns = false

abbrev pub change_of : RowOperation → List ℕ → List Value → List Value → Change
change_of operations.Insert table before after = changes.Insert table after
change_of operations.Delete table before after = changes.Delete table before
change_of operations.Update table before after = changes.Update table before after

-- no row is open
abbrev pub without_row : Standing → Standing
without_row s = record s { row = None; before = []; after = [] }

-- the row that is open is whole, and is told
abbrev pub tell_row : Standing → List ℕ → Result Standing EntryRefusal
tell_row s table = tell s (logged.Row (change_of s.operation table s.before s.after)) >>= λ t. Ok (without_row t)

abbrev pub finish_in : Standing → List ℕ → Option Table → Result Standing EntryRefusal
finish_in s table None = Err refusals.Table
finish_in s table (Some t) =
    if is_whole s.operation s.part (length s.before) (length s.after) (length t.columns) then tell_row s table
    else Err refusals.Columns

abbrev pub finish_by : Standing → Option (List ℕ) → Result Standing EntryRefusal
finish_by s None = Ok s
finish_by s (Some table) = finish_in s table (find_table table s.tables)

unfoldable pub finish_row : Standing → Result Standing EntryRefusal
finish_row s = finish_by s s.row

abbrev pub open_row : Standing → RowOperation → Option (List ℕ) → Result Standing EntryRefusal
open_row s operation None = Err refusals.Table
open_row s operation (Some table) =
    if has_table s.log table then Ok (record s { row = Some table; operation = operation; part = parts.Head })
    else Err refusals.Table

abbrev pub begin_row : Standing → RowOperation → List ℕ → List ℕ → Result Standing EntryRefusal
begin_row s operation database table = open_row s operation (table_name database table)

unfoldable pub row_line : Standing → RowOperation → List ℕ → List ℕ → Result Standing EntryRefusal
row_line s operation database table = finish_row s >>= λ t. begin_row t operation database table

-- the part that a line begins, if the row may have it next
abbrev pub before_due : RowOperation → RowPart → Bool
before_due operations.Update parts.Head = true
before_due operations.Delete parts.Head = true
before_due _ _ = false

abbrev pub after_due : RowOperation → RowPart → Bool
after_due operations.Insert parts.Head = true
after_due operations.Update parts.Before = true
after_due _ _ = false

unfoldable pub where_line : Standing → Result Standing EntryRefusal
where_line s = if is_some s.row && before_due s.operation s.part then Ok (record s { part = parts.Before }) else Err refusals.Columns

unfoldable pub set_line : Standing → Result Standing EntryRefusal
set_line s = if is_some s.row && after_due s.operation s.part then Ok (record s { part = parts.After }) else Err refusals.Columns

-- the value of the next column
abbrev pub parse_value : Option ColumnType → List ℕ → Result Value EntryRefusal
parse_value None text = Err refusals.Columns
parse_value (Some type) text = or_refused refusals.Value (value_at type text)

abbrev pub next_value : Standing → ℕ → ℕ → List ℕ → Result Value EntryRefusal
next_value s place n text = if n == place + 1 then parse_value (type_at s.row s.tables place) text else Err refusals.Columns

abbrev pub value_in : Standing → RowPart → ℕ → List ℕ → Result Standing EntryRefusal
value_in s parts.Head n text = Err refusals.Columns
value_in s parts.Before n text = do
  v ← next_value s (length s.before) n text
  Ok (record s { before = s.before ++ v ∷ [] })
value_in s parts.After n text = do
  v ← next_value s (length s.after) n text
  Ok (record s { after = s.after ++ v ∷ [] })

unfoldable pub value_line : Standing → ℕ → List ℕ → Result Standing EntryRefusal
value_line s n text = value_in s s.part n text

-- ---- tables

-- the table that is mapped joins the others, and the number of its columns is told
abbrev pub end_mapping : Standing → Option Table → Result Standing EntryRefusal
end_mapping s None = Ok s
end_mapping s (Some t) = tell s (logged.Columns (length t.columns)) >>= λ u. Ok (record u { tables = u.tables ++ t ∷ []; mapping = None })

-- an event has ended
unfoldable pub place_line : Standing → Result Standing EntryRefusal
place_line s = finish_row s >>= λ t. end_mapping t t.mapping

abbrev pub with_mapped : Standing → List ℕ → Standing
with_mapped s table = record s { is_over = false; mapping = Some (record { name = table; columns = [] }); tables = if s.is_over then [] else s.tables }

unfoldable pub table_line : Standing → List ℕ → List ℕ → Result Standing EntryRefusal
table_line s database table = tell s (logged.Maps database table) >>= λ t. Ok (with_mapped t (joined_name database table))

abbrev pub same_bool : Bool → Bool → Bool
same_bool true b = b
same_bool false b = not b

abbrev pub add_column : Standing → Option Table → Bool → ColumnType → Result Standing EntryRefusal
add_column s None is_first type = Err refusals.Format
add_column s (Some t) is_first type =
    if same_bool is_first (length t.columns == 0) then Ok (record s { mapping = Some (record { name = t.name; columns = t.columns ++ type ∷ [] }) })
    else Err refusals.Format

-- what the next column of the table that is mapped, whose type this text describes, tells of how it is compared
abbrev pub noted : LogState → Option Table → List ℕ → LogState
noted log None text = log
noted log (Some t) text = if compares_bytes text then log else transactions.behind log (logged.Varies t.name (length t.columns) (collation_in text))

abbrev pub note_varied : Standing → List ℕ → Standing
note_varied s text = record s { log = noted s.log s.mapping text }

unfoldable pub column_line : Standing → Column → Result Standing EntryRefusal
column_line s c = do
  type ← or_refused refusals.Type (parse_type c.column_type)
  add_column (note_varied s c.column_type) s.mapping c.is_first type

-- ---- transactions

unfoldable pub gtid_line : Standing → List ℕ → Result Standing EntryRefusal
gtid_line s word = or_refused refusals.Gtid (gtid_of_word word) >>= λ gtid. tell s (logged.Names gtid)

unfoldable pub sources_line : Standing → List ℕ → Result Standing EntryRefusal
sources_line s word = or_refused refusals.Gtid (set_of_word word) >>= λ gtids. tell s (logged.Precedes gtids)

unfoldable pub head_line : Standing → LogEvent → Result Standing EntryRefusal
head_line s (events.Rows operation ends) = tell s (logged.Rows ends) >>= λ t. Ok (record t { is_over = true })
head_line s events.PreviousGtids = tell s logged.Opens
head_line s _ = Ok s

-- ---- lines

abbrev pub mark_line : Standing → Mark → Result Standing EntryRefusal
mark_line s marks.Place = place_line s
mark_line s marks.Automatic = place_line s
mark_line s marks.Where = where_line s
mark_line s marks.Set = set_line s
mark_line s marks.Begin = tell s logged.Begins
mark_line s marks.Commit = tell s logged.Commits
mark_line s marks.Committed = tell s logged.Commits
mark_line s marks.Savepoint = tell s logged.Savepoint
mark_line s marks.Closed = tell s logged.Ends
mark_line s marks.Ended = Ok s
mark_line s marks.Empty = Ok s
mark_line s marks.Comment = Ok s
mark_line s marks.Setting = Ok s
mark_line s marks.Frame = Ok s
mark_line s marks.Extra = Ok s
mark_line s marks.Maintenance = tell s logged.Maintains

abbrev pub take_content : Standing → Content → Result Standing EntryRefusal
take_content s (OfMark mark) = mark_line s mark
take_content s (OfHead event) = head_line s event
take_content s (OfTable database table) = table_line s database table
take_content s (OfColumn c) = column_line s c
take_content s (OfGtid gtid) = gtid_line s gtid
take_content s (OfSources sources more) = sources_line s sources
take_content s (OfRow operation database table) = row_line s operation database table
take_content s (OfValue n text) = value_line s n text

unfoldable pub step : Standing → Content → Result Standing EntryRefusal
step s l =
    if takes s.body (kind_of l) then (do
      t ← take_content s l
      Ok (record t { body = next_body t.body l }))
    else Err (refusal_at s.body)

abbrev pub step_by : Standing → List ℕ → Option Content → Result Standing EntryRefusal
step_by s text None = Err (refusal_of s.body text)
step_by s text (Some l) = step s l

-- a line without content is refused: a statement's text is no line of ours
unfoldable pub judge : Standing → List ℕ → Result Standing EntryRefusal
judge s text = step_by s text (line_of text)

-- ---- faults of lines with which nothing is wrong

-- it is so of the set that a word names, or of what that set joins
abbrev pub OfNamed : (Gtids → Type 0) → Standing → Option Gtids → Type 0
OfNamed Has s None = ⊥
OfNamed Has s (Some gtids) = Has gtids ⊎ OfJoined Has s.log gtids

-- out of memory, or the set that a word names, or that set with what was executed before or came, has too many sources or intervals
abbrev pub IsSourcesFault : Standing → List ℕ → SetFault → Type 0
IsSourcesFault s word fault = IsMemoryOr (OfNamed HasManySources s (set_of_word word)) (OfNamed HasManyIntervals s (set_of_word word)) fault

-- it is so of what came, with the GTID that a word names
abbrev pub WithNamed : (Gtids → Type 0) → Gtids → Option Gtid → Type 0
WithNamed Has come None = ⊥
WithNamed Has come (Some gtid) = Has (set.insert come gtid)

-- out of memory, or what came has too many sources or intervals with the GTID that a word names
abbrev pub IsGtidFault : Standing → List ℕ → SetFault → Type 0
IsGtidFault s word fault = IsMemoryOr (WithNamed HasManySources s.log.come (gtid_of_word word)) (WithNamed HasManyIntervals s.log.come (gtid_of_word word)) fault

-- the end of an event keeps its row and its table, and that of a transaction its changes; other marks ask for nothing
abbrev pub IsMarkFault : Mark → SetFault → Type 0
IsMarkFault marks.Place fault = fault ≡ Memory
IsMarkFault marks.Automatic fault = fault ≡ Memory
IsMarkFault marks.Commit fault = fault ≡ Memory
IsMarkFault marks.Committed fault = fault ≡ Memory
IsMarkFault marks.Maintenance fault = fault ≡ Memory
IsMarkFault _ fault = ⊥

abbrev pub IsContentFault : Standing → Content → SetFault → Type 0
IsContentFault s (OfMark mark) fault = IsMarkFault mark fault
IsContentFault s (OfHead event) fault = ⊥
IsContentFault s (OfTable database table) fault = fault ≡ Memory
IsContentFault s (OfColumn c) fault = fault ≡ Memory
IsContentFault s (OfGtid gtid) fault = IsGtidFault s gtid fault
IsContentFault s (OfSources sources more) fault = IsSourcesFault s sources fault
IsContentFault s (OfRow operation database table) fault = fault ≡ Memory
IsContentFault s (OfValue n text) fault = fault ≡ Memory

-- it may be there, and its content has this fault
abbrev pub IsStepFault : Standing → Content → SetFault → Type 0
IsStepFault s l fault = (takes s.body (kind_of l) ≡ true) × IsContentFault s l fault

abbrev pub IsFaultBy : Standing → Option Content → SetFault → Type 0
IsFaultBy s None fault = ⊥
IsFaultBy s (Some l) fault = IsStepFault s l fault

-- Why a line is not taken, though nothing is wrong with it: no memory for its content, or a set that it names is full. A line without
-- content, or that may not be there, has no such fault.
abbrev pub IsLineFault : Standing → List ℕ → SetFault → Type 0
IsLineFault s text fault = IsFaultBy s (line_of text) fault

-- before the first line, if these GTIDs are in the opening set
abbrev pub start : Gtids → Standing
start opening = record {
  body = bodies.Preamble;
  is_over = false;
  mapping = None;
  tables = [];
  row = None;
  operation = operations.Insert;
  part = parts.Head;
  before = [];
  after = [];
  log = transactions.start opening;
}

-- the last file has ended
abbrev pub is_closed : Body → Bool
is_closed bodies.Closed = true
is_closed _ = false

-- what lines make, one after another
abbrev pub runs : Standing → List Content → Result Standing EntryRefusal
runs s [] = Ok s
runs s (l ∷ ls) = step s l >>= λ t. runs t ls
