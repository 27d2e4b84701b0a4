-- What lines tell of the log: its events.
use Rattle.std.specs.Prelude.{ℕ, List, [], ◌∷◌, ◌++◌, length, Option, Some, None, if◌then◌else◌}
use Rattle.gtid_text.specs.declared.Gtid.{Gtid}
use Rattle.gtid_set.specs.Sets.{Gtids}
use Rattle.journal_words.specs.Gtids.{gtid_of_word, set_of_word}
use Rattle.log_transactions.specs.Events.{Event}
use Rattle.log_transactions.specs.Events as logged
use Rattle.binlog_text.specs.Types.{compares_bytes, collation_in}
use Rattle.binlog_text.specs.declared.lines.LogEvent.{LogEvent}
use Rattle.binlog_text.specs.declared.lines.LogEvent.TheVariants as events
use Rattle.binlog_text.specs.declared.lines.Mark.{Mark}
use Rattle.binlog_text.specs.declared.lines.Mark.TheVariants as marks
use Rattle.binlog_text.specs.Lines.{Content, OfMark, OfHead, OfTable, OfColumn, OfGtid, OfSources, OfRow, OfValue}
use Rattle.binlog_entries.specs.Tables.{Table}
use Rattle.binlog_entries.specs.Machine.{change_of}
use Rattle.binlog_entries.specs.Meaning.{Context, context_behind}

-- the row that is open, once it has come whole
abbrev pub row_events : Context → Option (List ℕ) → List Event
row_events c None = []
row_events c (Some table) = logged.Row (change_of c.operation table c.before c.after) ∷ []

-- the number of columns of the table that is mapped, once they have come
abbrev pub columns_events : Option Table → List Event
columns_events None = []
columns_events (Some t) = logged.Columns (length t.columns) ∷ []

abbrev pub place_events : Context → List Event
place_events c = row_events c c.row ++ columns_events c.mapping

abbrev pub mark_events : Context → Mark → List Event
mark_events c marks.Place = place_events c
mark_events c marks.Automatic = place_events c
mark_events c marks.Begin = logged.Begins ∷ []
mark_events c marks.Commit = logged.Commits ∷ []
mark_events c marks.Committed = logged.Commits ∷ []
mark_events c marks.Savepoint = logged.Savepoint ∷ []
mark_events c marks.Maintenance = logged.Maintains ∷ []
mark_events c marks.Closed = logged.Ends ∷ []
mark_events c _ = []

abbrev pub head_events : LogEvent → List Event
head_events (events.Rows operation ends) = logged.Rows ends ∷ []
head_events events.PreviousGtids = logged.Opens ∷ []
head_events _ = []

-- the next column of the table that is mapped, whose type this text describes
abbrev pub column_events : Option Table → List ℕ → List Event
column_events None text = []
column_events (Some t) text = if compares_bytes text then [] else logged.Varies t.name (length t.columns) (collation_in text) ∷ []

abbrev pub gtid_events : Option Gtid → List Event
gtid_events None = []
gtid_events (Some gtid) = logged.Names gtid ∷ []

abbrev pub sources_events : Option Gtids → List Event
sources_events None = []
sources_events (Some gtids) = logged.Precedes gtids ∷ []

-- The end of an event, or the next row, tells the row that has come whole; the end of an event tells the columns of its table.
abbrev pub events_of : Context → Content → List Event
events_of c (OfMark mark) = mark_events c mark
events_of c (OfHead event) = head_events event
events_of c (OfTable database table) = logged.Maps database table ∷ []
events_of c (OfColumn column) = column_events c.mapping column.column_type
events_of c (OfGtid gtid) = gtid_events (gtid_of_word gtid)
events_of c (OfSources sources more) = sources_events (set_of_word sources)
events_of c (OfRow operation database table) = row_events c c.row
events_of c (OfValue n text) = []

-- what lines tell, in order
abbrev pub events_in : Context → List Content → List Event
events_in c [] = []
events_in c (l ∷ ls) = events_of c l ++ events_in (context_behind c l) ls
