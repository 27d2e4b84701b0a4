-- The lines of mysqlbinlog's text, each by itself.
use Rattle.std.specs.Prelude.{◌≡◌, ℕ, ◌^◌, ◌<◌, ◌==◌, ◌&&◌, ◌||◌, Bool, true, false, List, [], ◌∷◌, ◌++◌, length, Option, Some, None, is_some, codes, decimal, nat_eq}
use Rattle.std.specs.List.{list_all, ends_with}
use Rattle.std.specs.Char.{is_ascii_digit, is_ascii_alphabetic, is_ascii_alphanumeric}
use Rattle.std.specs.Str.{bytes_eq, str_eq_ignore_ascii_case}
use Rattle.row_images.specs.Values.{is_lower_digit}
use Rattle.binlog_text.specs.Tokens.{after_prefix, cut_at, lacks}
use Rattle.binlog_text.specs.declared.lines.RowOperation.{RowOperation}
use Rattle.binlog_text.specs.declared.lines.RowOperation.TheVariants as operations
use Rattle.binlog_text.specs.declared.lines.LogEvent.{LogEvent}
use Rattle.binlog_text.specs.declared.lines.LogEvent.TheVariants as events
use Rattle.binlog_text.specs.declared.lines.Mark.{Mark}
use Rattle.binlog_text.specs.declared.lines.Mark.TheVariants as marks

-- ---- the content of a line

pub record Column : Type 0 where
  pub is_first : Bool
  pub name : Option (List ℕ)
  pub column_type : List ℕ
  pub is_last : Bool

pub data Content : Type 0 where
  OfMark : Mark → Content
  OfHead : LogEvent → Content
  OfTable : List ℕ → List ℕ → Content
  OfColumn : Column → Content
  OfGtid : List ℕ → Content
  OfSources : List ℕ → Bool → Content
  OfRow : RowOperation → List ℕ → List ℕ → Content
  OfValue : ℕ → List ℕ → Content

-- ---- parts of lines

-- a name between backquotes that has none, and so is printed in one way
abbrev pub IsName : List ℕ → Type 0
IsName name = lacks 96 name ≡ true

-- a table by its database's name and its own
abbrev pub table_text : List ℕ → List ℕ → List ℕ
table_text database table = 96 ∷ (database ++ 96 ∷ 46 ∷ 96 ∷ (table ++ 96 ∷ []))

abbrev pub operation_text : RowOperation → List ℕ
operation_text operations.Insert = codes "INSERT INTO "
operation_text operations.Update = codes "UPDATE "
operation_text operations.Delete = codes "DELETE FROM "

abbrev pub rows_text : RowOperation → List ℕ
rows_text operations.Insert = codes "Write_rows: table id "
rows_text operations.Update = codes "Update_rows: table id "
rows_text operations.Delete = codes "Delete_rows: table id "

-- what the head of an event has after its time and place, as far as it determines the kind
abbrev pub event_text : LogEvent → List ℕ
event_text events.Start = codes "Start: binlog v 4, "
event_text events.PreviousGtids = codes "Previous-GTIDs"
event_text events.Gtid = codes "GTID\t"
event_text events.Query = codes "Query\t"
event_text (events.Rows operation ends) = rows_text operation
event_text events.Xid = codes "Xid = "
event_text events.Payload = codes "Transaction_Payload\t"
event_text events.Rotate = codes "Rotate to "
event_text events.Stop = codes "Stop"

abbrev pub begins : List ℕ → List ℕ → Bool
begins front text = is_some (after_prefix front text)

abbrev pub has_ending_flags : Option (List ℕ × List ℕ) → Bool
has_ending_flags None = false
has_ending_flags (Some parts) = begins (codes "flags: STMT_END_F") parts.1

-- by the flags after its table's number, a rows event ends its statement
abbrev pub ends_statement : List ℕ → Bool
ends_statement text = has_ending_flags (cut_at 32 text)

-- what the head of an event has after that says of a rows event whether it ends its statement
abbrev pub HasFlags : LogEvent → List ℕ → Type 0
HasFlags (events.Rows operation ends) rest = ends ≡ ends_statement rest
HasFlags _ rest = Unit {0}

abbrev pub begins_with_digit : List ℕ → Bool
begins_with_digit [] = false
begins_with_digit (b ∷ bs) = is_ascii_digit b

-- the time, the server, the place and the checksum: up to the first tab
pub record IsStamp (stamp : List ℕ) : Type 0 where
  pub first : begins_with_digit stamp ≡ true
  pub one : lacks 9 stamp ≡ true

-- the first column comes after the bracket, the others below it
abbrev pub column_front : Bool → List ℕ
column_front true = codes "Columns("
column_front false = codes "        "

abbrev pub column_end : Bool → ℕ
column_end true = 41
column_end false = 44

abbrev pub named_text : Option (List ℕ) → List ℕ → List ℕ
named_text None type = type
named_text (Some name) type = 96 ∷ (name ++ 96 ∷ 32 ∷ type)

abbrev pub IsNamed : Option (List ℕ) → List ℕ → Type 0
IsNamed None type = after_prefix (96 ∷ []) type ≡ None
IsNamed (Some name) type = IsName name

-- the first eight digits of a UUID, and a minus
abbrev pub is_source_front : Option (List ℕ × List ℕ) → Bool
is_source_front None = false
is_source_front (Some parts) = (length parts.0 == 8) && list_all is_lower_digit parts.0

abbrev pub is_source : List ℕ → Bool
is_source text = is_source_front (cut_at 45 text)

abbrev pub comma : Bool → List ℕ
comma true = 44 ∷ []
comma false = []

-- no comma is at its end, unless one more does
abbrev pub IsWhole : Bool → List ℕ → Type 0
IsWhole true sources = Unit {0}
IsWhole false sources = (front : List ℕ) → sources ≡ front ++ 44 ∷ [] → ⊥

-- ---- lines that are known by their prefixes and ends

-- after `# `
abbrev pub is_comment : List ℕ → Bool
is_comment text =
    begins (codes "original_commit_timestamp=") text
    || (begins (codes "immediate_commit_timestamp=") text
    || (begins (codes "has_generated_invisible_primary_key=") text
    || (begins (codes "Primary Key(") text
    || (begins (codes "Start of compressed events.") text
    || (begins (codes "End of compressed events.") text
    || (begins (codes "Warning: this binlog is either in use or was not closed properly.") text
    || (begins (codes "The proper term is pseudo_replica_mode") text
    || begins (codes "to make the statement usable on server versions") text)))))))

-- the end of a line that mysqlbinlog writes for the session
abbrev pub ends_setting : List ℕ → Bool
ends_setting text = ends_with nat_eq text (codes "/*!*/;")

abbrev pub begins_setting : List ℕ → Bool
begins_setting text =
    begins (codes "SET TIMESTAMP=") text
    || (begins (codes "SET @@session.") text
    || (begins (codes "/*!80001 SET @@session.") text
    || (begins (codes "/*!80011 SET @@session.") text
    || (begins (codes "/*!80013 SET @@session.") text
    || (begins (codes "/*!80014 SET @@session.") text
    || (begins (codes "/*!80016 SET @@session.") text
    || (begins (codes "/*!50718 SET TRANSACTION ISOLATION LEVEL READ COMMITTED") text
    || begins (codes "/*!\\C ") text)))))))

abbrev pub named_then : List ℕ → Option (List ℕ × List ℕ) → Bool
named_then rest None = false
named_then rest (Some parts) = bytes_eq parts.1 rest

-- a name up to the backquote after it, and then this
abbrev pub quotes_then : List ℕ → Option (List ℕ) → Bool
quotes_then rest None = false
quotes_then rest (Some text) = named_then rest (cut_at 96 text)

abbrev pub is_setting : List ℕ → Bool
is_setting text = (begins_setting text && ends_setting text) || quotes_then (codes "/*!*/;") (after_prefix (codes "use `") text)

-- the return to a savepoint is none: it takes rows back that come before it
abbrev pub is_savepoint : List ℕ → Bool
is_savepoint text = quotes_then [] (after_prefix (codes "SAVEPOINT `") text)

abbrev pub is_plain : ℕ → Bool
is_plain b = is_ascii_alphabetic b || (b == 32 || b == 95)

-- a statement that flushes, of letters, blanks and underscores alone
abbrev pub is_flush : List ℕ → Bool
is_flush text = (begins (codes "FLUSH ") text || begins (codes "flush ") text) && list_all is_plain text

-- a letter or a digit, or a byte of `_$-.,`, a blank or a backquote
abbrev pub is_of_names : ℕ → Bool
is_of_names b = is_ascii_alphanumeric b || (b == 95 || (b == 36 || (b == 45 || (b == 46 || (b == 44 || (b == 32 || b == 96))))))

-- the first of two parts is one of the words ANALYZE and OPTIMIZE, in any letter case
abbrev pub analyzes_or_optimizes : Option (List ℕ × List ℕ) → Bool
analyzes_or_optimizes None = false
analyzes_or_optimizes (Some parts) = str_eq_ignore_ascii_case parts.0 (codes "ANALYZE") || str_eq_ignore_ascii_case parts.0 (codes "OPTIMIZE")

-- ANALYZE or OPTIMIZE of tables by their names alone
abbrev pub is_of_tables : List ℕ → Bool
is_of_tables text = analyzes_or_optimizes (cut_at 32 text) && list_all is_of_names text

-- a statement of maintenance: it has no effect on rows, and stops no replica
abbrev pub is_maintenance : List ℕ → Bool
is_maintenance text = is_flush text || is_of_tables text

abbrev pub is_frame : List ℕ → Bool
is_frame text =
    bytes_eq text (codes "DELIMITER /*!*/;")
    || (bytes_eq text (codes "DELIMITER ;")
    || (bytes_eq text (codes "ROLLBACK/*!*/;")
    || (bytes_eq text (codes "/*!50530 SET @@SESSION.PSEUDO_SLAVE_MODE=1*/;")
    || (bytes_eq text (codes "/*!50530 SET @@SESSION.PSEUDO_SLAVE_MODE=0*/;")
    || (bytes_eq text (codes "/*!50003 SET @OLD_COMPLETION_TYPE=@@COMPLETION_TYPE,COMPLETION_TYPE=0*/;")
    || bytes_eq text (codes "/*!50003 SET COMPLETION_TYPE=@OLD_COMPLETION_TYPE*/;"))))))

-- ---- the grammar

abbrev pub IsMark : Mark → List ℕ → Type 0
IsMark marks.Place line = (rest : List ℕ) × (line ≡ codes "# at " ++ rest)
IsMark marks.Where line = line ≡ codes "### WHERE"
IsMark marks.Set line = line ≡ codes "### SET"
IsMark marks.Begin line = line ≡ codes "BEGIN"
IsMark marks.Commit line = line ≡ codes "COMMIT"
IsMark marks.Ended line = line ≡ codes "/*!*/;"
IsMark marks.Committed line = line ≡ codes "COMMIT/*!*/;"
IsMark marks.Savepoint line = is_savepoint line ≡ true
IsMark marks.Automatic line = line ≡ codes "SET @@SESSION.GTID_NEXT= 'AUTOMATIC' /* added by mysqlbinlog */ /*!*/;"
IsMark marks.Empty line = line ≡ codes "# [empty]"
IsMark marks.Closed line = line ≡ codes "# End of log file"
IsMark marks.Comment line = (rest : List ℕ) × (line ≡ codes "# " ++ rest) × (is_comment rest ≡ true)
IsMark marks.Setting line = is_setting line ≡ true
IsMark marks.Frame line = is_frame line ≡ true
IsMark marks.Extra line = (rest : List ℕ) × (line ≡ codes "### Extra row info for partitioning: " ++ rest)
IsMark marks.Maintenance line = is_maintenance line ≡ true

-- this is the content of the line
abbrev pub IsLine : Content → List ℕ → Type 0
IsLine (OfMark mark) line = IsMark mark line
IsLine (OfHead event) line = (stamp : List ℕ) × (rest : List ℕ) × (line ≡ 35 ∷ (stamp ++ 9 ∷ (event_text event ++ rest))) × IsStamp stamp × HasFlags event rest
IsLine (OfTable database table) line =
    (stamp : List ℕ) × (n : ℕ) × (line ≡ 35 ∷ (stamp ++ 9 ∷ (codes "Table_map: " ++ (table_text database table ++ (codes " mapped to number " ++ decimal n)))))
    × IsStamp stamp × IsName database × IsName table × (n < 2 ^ 64)
IsLine (OfColumn c) line = (line ≡ codes "# " ++ (column_front c.is_first ++ (named_text c.name c.column_type ++ column_end c.is_last ∷ []))) × IsNamed c.name c.column_type
IsLine (OfGtid gtid) line = (line ≡ codes "SET @@SESSION.GTID_NEXT= '" ++ (gtid ++ codes "'/*!*/;")) × (lacks 39 gtid ≡ true)
IsLine (OfSources sources more) line = (line ≡ codes "# " ++ (sources ++ comma more)) × (is_source sources ≡ true) × IsWhole more sources
IsLine (OfRow operation database table) line = (line ≡ codes "### " ++ (operation_text operation ++ table_text database table)) × IsName database × IsName table
IsLine (OfValue n text) line = (line ≡ codes "###   @" ++ (decimal n ++ 61 ∷ text)) × (n < 2 ^ 64)
