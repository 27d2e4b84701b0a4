-- What lines mean, and what entries denote.
use Rattle.std.specs.Prelude.{◌≡◌, ℕ, ◌+◌, ◌-◌, ◌||◌, not, Bool, true, false, List, [], ◌∷◌, ◌++◌, Option, Some, None, Ok, if◌then◌else◌}
use Rattle.std.specs.List.{flat_map}
use Rattle.std.specs.FinSet as set
use Rattle.gtid_set.specs.Sets.{Gtids}
use Rattle.gtid_text.specs.Canonical.{gtid_text}
use Rattle.gtid_text.specs.declared.Gtid.{Gtid}
use Rattle.journal_words.specs.Gtids.{gtid_of_word, set_of_word}
use Rattle.journal.specs.declared.Entry.{Entry}
use Rattle.row_images.specs.declared.value.Value.{Value}
use Rattle.rows.specs.declared.change.Change.{Change}
use Rattle.rows.specs.declared.change.Change.TheVariants as changes
use Rattle.binlog_text.specs.declared.types.ColumnType.{ColumnType}
use Rattle.binlog_text.specs.Types.{parse_type}
use Rattle.binlog_text.specs.Values.{value_at}
use Rattle.binlog_text.specs.declared.lines.LogEvent.{LogEvent}
use Rattle.binlog_text.specs.declared.lines.LogEvent.TheVariants as events
use Rattle.binlog_text.specs.declared.lines.Mark.{Mark}
use Rattle.binlog_text.specs.declared.lines.Mark.TheVariants as marks
use Rattle.binlog_text.specs.declared.lines.RowOperation.{RowOperation}
use Rattle.binlog_text.specs.declared.lines.RowOperation.TheVariants as operations
use Rattle.binlog_text.specs.Lines.{Content, OfMark, OfHead, OfTable, OfColumn, OfGtid, OfSources, OfRow, OfValue}
use Rattle.binlog_entries.specs.Tables.{Table, with_mapping, type_at}
use Rattle.log_transactions.specs.Tables.{joined_name}
use Rattle.log_transactions.specs.Files.{next_file, has_come, come_behind}
use Rattle.binlog_entries.specs.Varied.{varied_behind}
use Rattle.log_transactions.specs.declared.varied.Varied.{Varied}
use Rattle.log_transactions.specs.declared.stages.FileOrder.{FileOrder}
use Rattle.log_transactions.specs.declared.stages.FileOrder.TheVariants as files
use Rattle.binlog_entries.specs.declared.draft.RowPart.{RowPart}
use Rattle.binlog_entries.specs.declared.draft.RowPart.TheVariants as parts
use Rattle.binlog_entries.specs.Machine.{Standing, runs, start, is_closed}

-- what a line means for transactions: a GTID, a row of a table by its name, the images of a row with the values of their columns, and the end
pub data Meaning : Type 0 where
  Names : List ℕ → Meaning
  Row : RowOperation → List ℕ → Meaning
  Before : Meaning
  After : Meaning
  Holds : ℕ → Option Value → Meaning
  Commits : Meaning

-- ---- of lines

-- The tables that the statement maps, the table of the row, and what has come of it. The tables determine the types of the values that follow.
pub record Context : Type 0 where
  pub is_over : Bool
  pub mapping : Option Table
  pub tables : List Table
  pub row : Option (List ℕ)
  pub operation : RowOperation
  pub part : RowPart
  pub before : List Value
  pub after : List Value

-- before the first line
abbrev pub nowhere : Context
nowhere = record { is_over = false; mapping = None; tables = []; row = None; operation = operations.Insert; part = parts.Head; before = []; after = [] }

-- the value that a text shows in the nth column of the row
abbrev pub shown_in : Option ColumnType → List ℕ → Option Value
shown_in None text = None
shown_in (Some type) text = value_at type text

abbrev pub mark_means : Mark → List Meaning
mark_means marks.Where = Before ∷ []
mark_means marks.Set = After ∷ []
mark_means marks.Commit = Commits ∷ []
mark_means marks.Committed = Commits ∷ []
mark_means marks.Maintenance = Commits ∷ []
mark_means marks.Place = []
mark_means marks.Begin = []
mark_means marks.Ended = []
mark_means marks.Savepoint = []
mark_means marks.Automatic = []
mark_means marks.Empty = []
mark_means marks.Closed = []
mark_means marks.Comment = []
mark_means marks.Setting = []
mark_means marks.Frame = []
mark_means marks.Extra = []

abbrev pub means : Context → Content → List Meaning
means c (OfMark mark) = mark_means mark
means c (OfHead event) = []
means c (OfTable database table) = []
means c (OfColumn column) = []
means c (OfGtid gtid) = Names gtid ∷ []
means c (OfSources sources more) = []
means c (OfRow operation database table) = Row operation (joined_name database table) ∷ []
means c (OfValue n text) = Holds n (shown_in (type_at c.row c.tables (n - 1)) text) ∷ []

abbrev pub behind_place : Context → Context
behind_place c = record c { mapping = None; tables = with_mapping c.tables c.mapping; row = None; before = []; after = [] }

abbrev pub with_column : Option Table → Option ColumnType → Option Table
with_column None type = None
with_column (Some t) None = Some t
with_column (Some t) (Some type) = Some (record { name = t.name; columns = t.columns ++ type ∷ [] })

abbrev pub behind_mark : Context → Mark → Context
behind_mark c marks.Place = behind_place c
behind_mark c marks.Automatic = behind_place c
behind_mark c marks.Where = record c { part = parts.Before }
behind_mark c marks.Set = record c { part = parts.After }
behind_mark c marks.Begin = c
behind_mark c marks.Commit = c
behind_mark c marks.Ended = c
behind_mark c marks.Committed = c
behind_mark c marks.Savepoint = c
behind_mark c marks.Empty = c
behind_mark c marks.Closed = c
behind_mark c marks.Comment = c
behind_mark c marks.Setting = c
behind_mark c marks.Frame = c
behind_mark c marks.Extra = c
behind_mark c marks.Maintenance = c

abbrev pub behind_head : Context → LogEvent → Context
behind_head c (events.Rows operation ends) = record c { is_over = true }
behind_head c events.Start = c
behind_head c events.PreviousGtids = c
behind_head c events.Gtid = c
behind_head c events.Query = c
behind_head c events.Xid = c
behind_head c events.Payload = c
behind_head c events.Rotate = c
behind_head c events.Stop = c

-- one value more
abbrev pub with_value : Context → RowPart → Option Value → Context
with_value c parts.Before (Some v) = record c { before = c.before ++ v ∷ [] }
with_value c parts.After (Some v) = record c { after = c.after ++ v ∷ [] }
with_value c _ _ = c

-- after rows the next table is another statement's
abbrev pub context_behind : Context → Content → Context
context_behind c (OfMark mark) = behind_mark c mark
context_behind c (OfHead event) = behind_head c event
context_behind c (OfTable database table) = record c { is_over = false; mapping = Some (record { name = joined_name database table; columns = [] }); tables = if c.is_over then [] else c.tables }
context_behind c (OfColumn column) = record c { mapping = with_column c.mapping (parse_type column.column_type) }
context_behind c (OfGtid gtid) = c
context_behind c (OfSources sources more) = c
context_behind c (OfRow operation database table) = record c { row = Some (joined_name database table); operation = operation; part = parts.Head; before = []; after = [] }
context_behind c (OfValue n text) = with_value c c.part (shown_in (type_at c.row c.tables (n - 1)) text)

-- what lines mean, in order
abbrev pub meaning : Context → List Content → List Meaning
meaning c [] = []
meaning c (l ∷ ls) = means c l ++ meaning (context_behind c l) ls

-- the columns that the server compares otherwise than their bytes, after these lines
abbrev pub varied_by : Context → List Varied → Content → List Varied
varied_by c vs (OfColumn column) = varied_behind vs c.mapping column.column_type
varied_by c vs (OfMark mark) = vs
varied_by c vs (OfHead event) = vs
varied_by c vs (OfTable database table) = vs
varied_by c vs (OfGtid gtid) = vs
varied_by c vs (OfSources sources more) = vs
varied_by c vs (OfRow operation database table) = vs
varied_by c vs (OfValue n text) = vs

abbrev pub varied_in : Context → List Varied → List Content → List Varied
varied_in c vs [] = vs
varied_in c vs (l ∷ ls) = varied_in (context_behind c l) (varied_by c vs l) ls

-- what was executed before, after a line of the previous set
abbrev pub with_sources : Gtids → Option Gtids → Gtids
with_sources before None = before
with_sources before (Some more) = set.union before more

-- What was executed before, by these lines: the sets that come before the first GTID, together.
abbrev pub executed_before : Gtids → List Content → Gtids
executed_before before [] = before
executed_before before (OfGtid gtid ∷ ls) = before
executed_before before (OfSources sources more ∷ ls) = executed_before (with_sources before (set_of_word sources)) ls
executed_before before (OfMark mark ∷ ls) = executed_before before ls
executed_before before (OfHead event ∷ ls) = executed_before before ls
executed_before before (OfTable database table ∷ ls) = executed_before before ls
executed_before before (OfColumn column ∷ ls) = executed_before before ls
executed_before before (OfRow operation database table ∷ ls) = executed_before before ls
executed_before before (OfValue n text ∷ ls) = executed_before before ls

-- ---- what a log owes

-- the next line is a row's, but for extra row info
abbrev pub row_comes : List Content → Bool
row_comes [] = false
row_comes (OfMark marks.Extra ∷ ls) = row_comes ls
row_comes (OfRow operation database table ∷ ls) = true
row_comes (_ ∷ ls) = false

-- the head of a rows event that ends its statement has a row behind it
abbrev pub head_has_rows : LogEvent → List Content → Bool
head_has_rows (events.Rows operation ends) ls = not ends || row_comes ls
head_has_rows _ ls = true

-- no transaction ends while a statement of rows is open
abbrev pub may_commit : Bool → Mark → Bool
may_commit is_open marks.Commit = not is_open
may_commit is_open marks.Committed = not is_open
may_commit is_open _ = true

abbrev pub has_rows : Bool → Content → List Content → Bool
has_rows is_open (OfHead event) ls = head_has_rows event ls
has_rows is_open (OfMark mark) ls = may_commit is_open mark
has_rows is_open _ ls = true

-- whether a statement of rows is open behind the head of an event: one is behind a rows event that doesn't end it
abbrev pub open_behind : Bool → LogEvent → Bool
open_behind is_open (events.Rows operation ends) = not ends
open_behind is_open _ = is_open

-- the same behind any line
abbrev pub open_by : Bool → Content → Bool
open_by is_open (OfHead event) = open_behind is_open event
open_by is_open _ = is_open

-- Each statement of rows ends before its transaction does, and the event that ends it has a row behind it.
abbrev pub HaveRows : Bool → List Content → Type 0
HaveRows is_open [] = Unit {0}
HaveRows is_open (l ∷ ls) = (has_rows is_open l ls ≡ true) × HaveRows (open_by is_open l) ls

-- the file whose previous set is read, after a line: what comes behind a GTID is of a later one
abbrev pub file_by : FileOrder → Content → FileOrder
file_by file (OfHead events.PreviousGtids) = next_file file
file_by file (OfGtid gtid) = files.Later
file_by file _ = file

-- what came, after the set, or the GTID, that a word names
abbrev pub come_with : FileOrder → Gtids → Option Gtids → Gtids
come_with file come None = come
come_with file come (Some gtids) = come_behind file come gtids

abbrev pub come_with_gtid : Gtids → Option Gtid → Gtids
come_with_gtid come None = come
come_with_gtid come (Some gtid) = set.insert come gtid

-- what came, after a line
abbrev pub come_by : FileOrder → Gtids → Content → Gtids
come_by file come (OfSources sources more) = come_with file come (set_of_word sources)
come_by file come (OfGtid gtid) = come_with_gtid come (gtid_of_word gtid)
come_by file come _ = come

abbrev pub named_has_come : FileOrder → Gtids → Option Gtids → Bool
named_has_come file come None = false
named_has_come file come (Some gtids) = has_come file come gtids

-- a line of a previous set of a later file lies within what came
abbrev pub set_has_come : FileOrder → Gtids → Content → Bool
set_has_come file come (OfSources sources more) = named_has_come file come (set_of_word sources)
set_has_come file come _ = true

-- The previous set of each file but the first lies within what came before it: what came at the start, the previous set of the first file,
-- and the GTIDs of lines.
abbrev pub NoGap : FileOrder → Gtids → List Content → Type 0
NoGap file come [] = Unit {0}
NoGap file come (l ∷ ls) = (set_has_come file come l ≡ true) × NoGap (file_by file l) (come_by file come l) ls

-- ---- of entries

-- the values of an image, from this column on
abbrev pub meaning_of_values : ℕ → List Value → List Meaning
meaning_of_values n [] = []
meaning_of_values n (v ∷ vs) = Holds n (Some v) ∷ meaning_of_values (n + 1) vs

abbrev pub meaning_of_change : Change → List Meaning
meaning_of_change (changes.Insert table after) = Row operations.Insert table ∷ After ∷ meaning_of_values 1 after
meaning_of_change (changes.Delete table before) = Row operations.Delete table ∷ Before ∷ meaning_of_values 1 before
meaning_of_change (changes.Update table before after) = Row operations.Update table ∷ Before ∷ (meaning_of_values 1 before ++ After ∷ meaning_of_values 1 after)

abbrev pub meaning_of_entry : Entry → List Meaning
meaning_of_entry e = Names (gtid_text e.gtid) ∷ (flat_map meaning_of_change e.txn.changes ++ Commits ∷ [])

-- what entries denote, in order
abbrev pub meaning_of_entries : List Entry → List Meaning
meaning_of_entries entries = flat_map meaning_of_entry entries

-- What lines of a whole log mean is what their entries mean.
abbrev pub LinesMeanEntries : Type 0
LinesMeanEntries = (opening : Gtids) (lines : List Content) (s : Standing) → runs (start opening) lines ≡ Ok s → is_closed s.body ≡ true → meaning nowhere lines ≡ meaning_of_entries s.log.entries
