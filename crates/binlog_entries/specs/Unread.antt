-- The faults of lines without content, and the words of refusals.
use Rattle.std.specs.Prelude.{ℕ, ◌||◌, Bool, List, Option, Some, None, codes, nat_eq, if◌then◌else◌}
use Rattle.std.specs.List.{starts_with}
use Rattle.binlog_text.specs.Tokens.{cut_at}
use Rattle.binlog_entries.specs.Bodies.{is_row_due}
use Rattle.binlog_entries.specs.declared.bodies.Body.{Body}
use Rattle.binlog_entries.specs.declared.bodies.Body.TheVariants as bodies
use Rattle.binlog_entries.specs.declared.fault.EntryRefusal.{EntryRefusal}
use Rattle.binlog_entries.specs.declared.fault.EntryRefusal.TheVariants as refusals

abbrev pub word_of : EntryRefusal → List ℕ
word_of refusals.Format = codes "format"
word_of refusals.Statement = codes "statement"
word_of refusals.Xa = codes "xa"
word_of refusals.Gtid = codes "gtid"
word_of refusals.Transaction = codes "transaction"
word_of refusals.Table = codes "table"
word_of refusals.Type = codes "type"
word_of refusals.Columns = codes "columns"
word_of refusals.Value = codes "value"
word_of refusals.Mariadb = codes "mariadb"
word_of refusals.Rows = codes "rows"
word_of refusals.Gap = codes "gap"

-- of a line of no kind that may be there: a rows event lacks its rows
abbrev pub refusal_at : Body → EntryRefusal
refusal_at body = if is_row_due body then refusals.Rows else refusals.Format

abbrev pub is_mariadb_head : List ℕ → Bool
is_mariadb_head text =
    starts_with nat_eq text (codes "GTID ")
    || (starts_with nat_eq text (codes "Gtid list ")
    || starts_with nat_eq text (codes "Binlog checkpoint "))

-- after the tab of an event's head
abbrev pub refusal_of_head : Option (List ℕ × List ℕ) → EntryRefusal
refusal_of_head None = refusals.Format
refusal_of_head (Some parts) =
    if starts_with nat_eq parts.1 (codes "XA PREPARE ") then refusals.Xa
    else if starts_with nat_eq parts.1 (codes "Anonymous_GTID") then refusals.Gtid
    else if starts_with nat_eq parts.1 (codes "Table_map: ") then refusals.Table
    else if is_mariadb_head parts.1 then refusals.Mariadb
    else refusals.Format

abbrev pub refusal_in : Body → List ℕ → EntryRefusal
refusal_in bodies.Query text = if starts_with nat_eq text (codes "XA ") then refusals.Xa else refusals.Statement
refusal_in bodies.Statement text = refusals.Statement
refusal_in bodies.Between text = refusal_of_head (cut_at 9 text)
refusal_in bodies.Rows text = if starts_with nat_eq text (codes "### ") then refusals.Table else refusals.Format
refusal_in _ text = refusals.Format

-- MariaDB's lines for the session are comments for its own versions
abbrev pub is_mariadb_line : List ℕ → Bool
is_mariadb_line text =
    starts_with nat_eq text (codes "/*!100")
    || (starts_with nat_eq text (codes "/*M!")
    || starts_with nat_eq text (codes "/*!40019 SET @@session.max_delayed_threads="))

-- if a row is owed, whatever else comes shows that it lacks
abbrev pub refusal_of : Body → List ℕ → EntryRefusal
refusal_of body text =
    if is_row_due body then refusals.Rows
    else if is_mariadb_line text then refusals.Mariadb
    else refusal_in body text
