-- What an event of a file tells of the log, or why it is refused. The numbers of kinds are MySQL's.
use Rattle.std.specs.Prelude.{ℕ, ◌==◌, ◌||◌, ◌/◌, ◌%◌, Bool, List, [], ◌∷◌, length, Option, Some, None, Result, Ok, Err, if◌then◌else◌}
use Rattle.std.specs.FinSet as set
use Rattle.gtid_text.specs.declared.Gtid.{Gtid}
use Rattle.gtid_set.specs.Sets.{Gtids}
use Rattle.journal_words.specs.Gtids.{set_of_word}
use Rattle.log_transactions.specs.Events.{Event, Opens, Precedes, Names, Commits, Maps, Columns, Varies}
use Rattle.log_transactions.specs.Tables.{joined_name}
use Rattle.binlog_frames.specs.Spelling.{Framed}
use Rattle.binlog_events.specs.Bodies.{query_text, Mapped, mapped, rows_id}
use Rattle.binlog_events.specs.Previous.{previous_text}
use Rattle.binlog_rows.specs.Collations.{varied_columns}
use Rattle.binlog_rows.specs.declared.comparisons.VariedPlace.{VariedPlace}
use Rattle.binlog_rows.specs.Columns.{columns_of}
use Rattle.binlog_rows.specs.declared.columns.MappedColumn.{MappedColumn}
use Rattle.binlog_files.specs.Statements.{statement_told}
use Rattle.binlog_files.specs.Rows.{is_rows, rows_of_told}
use Rattle.binlog_files.specs.Tables.{Tables}
use Rattle.binlog_files.specs.declared.fault.FileRefusal.{FileRefusal}
use Rattle.binlog_files.specs.declared.fault.FileRefusal.TheVariants as refusals

abbrev pub one : Result Event FileRefusal → Result (List Event) FileRefusal
one (Ok event) = Ok (event ∷ [])
one (Err refusal) = Err refusal

-- and whether an operator answers for the statement
abbrev pub query_told : Bool → Option (List ℕ) → Result (List Event) FileRefusal
query_told is_accepted None = Err refusals.Format
query_told is_accepted (Some text) = one (statement_told is_accepted text)

-- XID: 8 bytes
abbrev pub xid_told : List ℕ → Result (List Event) FileRefusal
xid_told body = if length body == 8 then Ok (Commits ∷ []) else Err refusals.Format

-- ---- sets

-- the set of PREVIOUS_GTIDS, by its text, which has a blank before the first item; one with tags is none of ours
abbrev pub set_said : List ℕ → Option Gtids
set_said [] = Some set.empty
set_said (blank ∷ word) = set_of_word word

abbrev pub set_told : Option Gtids → Result (List Event) FileRefusal
set_told None = Err refusals.Gtid
set_told (Some gtids) = Ok (Opens ∷ Precedes gtids ∷ [])

abbrev pub previous_told : Option (List ℕ) → Result (List Event) FileRefusal
previous_told None = Err refusals.Format
previous_told (Some text) = set_told (set_said text)

abbrev pub gtid_told : Option Gtid → Result (List Event) FileRefusal
gtid_told None = Err refusals.Format
gtid_told (Some gtid) = Ok (Names gtid ∷ [])

-- ---- tables

-- these columns of a table are compared otherwise than by their bytes
abbrev pub varies : List ℕ → List VariedPlace → List Event
varies table [] = []
varies table (column ∷ columns) = Varies table column.place column.collation ∷ varies table columns

-- a table is mapped that has so many columns, of which these are compared otherwise than by their bytes
abbrev pub table_told : Mapped → ℕ → List VariedPlace → Result (List Event) FileRefusal
table_told m columns varied = Ok (Maps m.database m.table ∷ Columns columns ∷ varies (joined_name m.database m.table) varied)

-- the same, where the map says the columns, their signs and their collations
abbrev pub columns_told : Mapped → Option (List MappedColumn) → Option (List VariedPlace) → Result (List Event) FileRefusal
columns_told m None varied = Err refusals.Type
columns_told m (Some columns) None = Err refusals.Metadata
columns_told m (Some columns) (Some varied) = table_told m (length columns) varied

abbrev pub map_told : Option Mapped → Option (List MappedColumn) → Option (List VariedPlace) → Result (List Event) FileRefusal
map_told None columns varied = Err refusals.Format
map_told (Some m) columns varied = columns_told m columns varied

-- ---- rows

-- what a rows event tells, by the id of its table
abbrev pub id_told : Tables → ℕ → List ℕ → Option ℕ → Result (List Event) FileRefusal
id_told tables kind body None = Err refusals.Format
id_told tables kind body (Some id) = rows_of_told kind body (tables id)

-- ---- the others

-- STOP, ROTATE, FORMAT_DESCRIPTION, HEARTBEAT, IGNORABLE, ROWS_QUERY, TRANSACTION_CONTEXT, VIEW_CHANGE, HEARTBEAT_V2
abbrev pub is_silent : ℕ → Bool
is_silent kind =
    (kind == 3) || ((kind == 4) || ((kind == 15) || ((kind == 27) || ((kind == 28) || ((kind == 29) || ((kind == 36) || ((kind == 37) || (kind == 41))))))))

-- what may be passed over by whoever doesn't know it
abbrev pub is_ignorable : ℕ → Bool
is_ignorable flags = flags / 128 % 2 == 1

-- INTVAR, RAND, USER_VAR and those of LOAD DATA are of statements
abbrev pub is_of_statement : ℕ → Bool
is_of_statement kind = (kind == 5) || ((kind == 13) || ((kind == 14) || ((kind == 17) || (kind == 18))))

-- why a kind is refused that has no place in what is read: INCIDENT, ANONYMOUS_GTID and GTID_TAGGED, XA_PREPARE, PARTIAL_UPDATE_ROWS and
-- TRANSACTION_PAYLOAD have words of their own. None: the kind is unknown.
unfoldable pub kind_refusal : ℕ → Option FileRefusal
kind_refusal kind =
    if kind == 26 then Some refusals.Incident
    else if (kind == 34) || (kind == 42) then Some refusals.Gtid
    else if kind == 38 then Some refusals.Xa
    else if kind == 39 then Some refusals.Partial
    else if kind == 40 then Some refusals.Compressed
    else if is_of_statement kind then Some refusals.Statement
    else None

abbrev pub unknown_told : Option FileRefusal → ℕ → Result (List Event) FileRefusal
unknown_told (Some refusal) flags = Err refusal
unknown_told None flags = if is_ignorable flags then Ok [] else Err refusals.Kind

unfoldable pub other_told : ℕ → ℕ → Result (List Event) FileRefusal
other_told kind flags = if is_silent kind then Ok [] else unknown_told (kind_refusal kind) flags

-- what an event tells but a GTID, where these tables are mapped, and whether an operator answers for a statement that comes now
unfoldable pub told : Tables → Bool → Framed → Result (List Event) FileRefusal
told tables is_accepted e =
    if e.kind == 2 then query_told is_accepted (query_text e.body)
    else if e.kind == 16 then xid_told e.body
    else if e.kind == 19 then map_told (mapped e.body) (columns_of e.body) (varied_columns e.body)
    else if e.kind == 35 then previous_told (previous_text e.body)
    else if is_rows e.kind then id_told tables e.kind e.body (rows_id e.body)
    else other_told e.kind e.flags
