-- How far the events of a log have come, and what each adds: tables, changes, entries.
use Rattle.std.specs.Prelude.{◌≡◌, ◌⊎◌, ℕ, ◌==◌, ◌&&◌, not, is_some, Bool, true, false, List, [], ◌∷◌, ◌++◌, length, Option, Some, None, Result, Ok, Err, if◌then◌else◌}
use Rattle.std.specs.FinSet as set
use Rattle.gtid_text.specs.declared.Gtid.{Gtid}
use Rattle.gtid_set.specs.Full.{HasManySources, HasManyIntervals, IsFaultOf, IsMemoryOr}
use Rattle.gtid_set.specs.Sets.{Gtids}
use Rattle.gtid_set.specs.declared.fault.SetFault.{SetFault}
use Rattle.gtid_set.specs.declared.fault.SetFault.TheVariants.{Memory}
use Rattle.journal.specs.declared.Entry.{Entry}
use Rattle.rows.specs.Fits.{table_of}
use Rattle.rows.specs.declared.change.Change.{Change}
use Rattle.rows.specs.declared.change.Change.TheVariants as changes
use Rattle.log_transactions.specs.Events.{Event, Opens, Precedes, Names, Begins, Maps, Columns, Varies, Rows, Row, Savepoint, Commits, Maintains, Ends}
use Rattle.log_transactions.specs.Files.{is_later, next_file, has_come, come_behind}
use Rattle.log_transactions.specs.Tables.{find_table, joined_name, table_name}
use Rattle.log_transactions.specs.declared.mapped.StatementTable.{StatementTable}
use Rattle.log_transactions.specs.Varied.{with_varied}
use Rattle.log_transactions.specs.declared.fault.EventFault.{EventFault}
use Rattle.log_transactions.specs.declared.fault.EventFault.TheVariants as faults
use Rattle.log_transactions.specs.declared.fault.EventRefusal.{EventRefusal}
use Rattle.log_transactions.specs.declared.fault.EventRefusal.TheVariants as refusals
use Rattle.log_transactions.specs.declared.stages.FileOrder.{FileOrder}
use Rattle.log_transactions.specs.declared.stages.FileOrder.TheVariants as files
use Rattle.log_transactions.specs.declared.stages.TransactionStage.{TransactionStage}
use Rattle.log_transactions.specs.declared.stages.TransactionStage.TheVariants as stages
use Rattle.log_transactions.specs.declared.varied.Varied.{Varied}

-- How far the events have come.
pub record LogState : Type 0 where
  -- of the transaction that is open, or was the last one
  pub stage : TransactionStage
  pub gtid : Gtid
  -- whether no GTID has come, and what was executed before, by the files
  pub is_fresh : Bool
  pub previous : Gtids
  -- the file whose previous set is read, and what came: the opening set, the previous set of the first file, and GTIDs
  pub file : FileOrder
  pub come : Gtids
  -- rows events of the statement have come, so that the next table is another statement's
  pub is_over : Bool
  -- rows events of a statement have come, and none of them has ended it
  pub is_open : Bool
  -- the table whose columns come, and those that the statement has mapped before
  pub mapping : Option (List ℕ)
  pub tables : List StatementTable
  -- of the transaction that is open, and of those before it
  pub changes : List Change
  pub entries : List Entry
  -- columns whose values the server compares otherwise than their bytes
  pub varied : List Varied

abbrev pub is_idle : TransactionStage → Bool
is_idle stages.Idle = true
is_idle _ = false

abbrev pub is_named : TransactionStage → Bool
is_named stages.Named = true
is_named _ = false

abbrev pub is_begun : TransactionStage → Bool
is_begun stages.Begun = true
is_begun _ = false

-- the GTID of a transaction of which nothing else has come
abbrev pub named : LogState → Option Gtid
named s = if is_named s.stage then Some s.gtid else None

-- ---- what an event adds

abbrev pub previous_behind : Bool → Gtids → Gtids → Gtids
previous_behind fresh previous gtids = if fresh then set.union previous gtids else previous

-- the transaction that is open, with these changes
abbrev pub entry_of : Gtid → List Change → Entry
entry_of gtid changes = record { gtid = gtid; txn = record { changes = changes } }

abbrev pub with_entry : LogState → List Change → LogState
with_entry s changes = record s { stage = stages.Idle; entries = s.entries ++ entry_of s.gtid changes ∷ [] }

-- the table that is mapped, with the number of its columns, joins the others
abbrev pub with_columns : List StatementTable → Option (List ℕ) → ℕ → List StatementTable
with_columns tables None columns = tables
with_columns tables (Some table) columns = tables ++ record { name = table; columns = columns } ∷ []

-- What was executed before is what comes before the first GTID; later files repeat what has come. A table that is mapped behind rows is
-- another statement's. A statement of maintenance is a transaction without changes.
abbrev pub behind : LogState → Event → LogState
behind s Opens = record s { file = next_file s.file }
behind s (Precedes gtids) = record s { previous = previous_behind s.is_fresh s.previous gtids; come = come_behind s.file s.come gtids }
behind s (Names gtid) = record s { stage = stages.Named; gtid = gtid; is_fresh = false; file = files.Later; come = set.insert s.come gtid }
behind s Begins = record s { stage = stages.Begun }
behind s (Maps database table) = record s { is_over = false; mapping = Some (joined_name database table); tables = if s.is_over then [] else s.tables }
behind s (Columns columns) = record s { mapping = None; tables = with_columns s.tables s.mapping columns }
behind s (Varies table column collation) = record s { varied = with_varied s.varied table column collation }
behind s (Rows ends) = record s { is_over = true; is_open = not ends }
behind s (Row change) = record s { changes = s.changes ++ change ∷ [] }
behind s Savepoint = s
behind s Commits = record (with_entry s s.changes) { changes = [] }
behind s Maintains = with_entry s []
behind s Ends = s

-- ---- where an event is refused

-- it is not, where this holds
abbrev pub unless : EventRefusal → Bool → Option EventRefusal
unless refusal holds = if holds then None else Some refusal

-- each image has so many values
abbrev pub are_images : Change → ℕ → Bool
are_images (changes.Insert table after) columns = length after == columns
are_images (changes.Delete table before) columns = length before == columns
are_images (changes.Update table before after) columns = (length before == columns) && (length after == columns)

abbrev pub image_refusal : Change → Option StatementTable → Option EventRefusal
image_refusal change None = Some refusals.Table
image_refusal change (Some t) = unless refusals.Columns (are_images change t.columns)

-- a row comes behind a rows event of its transaction, its table is one that the statement maps, and it has a value for each column
abbrev pub row_refusal : LogState → Change → Option EventRefusal
row_refusal s change =
    if not (is_begun s.stage && s.is_over) then Some refusals.Transaction
    else image_refusal change (find_table (table_of change) s.tables)

-- a table is mapped in a transaction that has begun, and has a name
abbrev pub map_refusal : LogState → List ℕ → List ℕ → Option EventRefusal
map_refusal s database table =
    if not (is_begun s.stage) then Some refusals.Transaction
    else unless refusals.Table (is_some (table_name database table))

-- why an event is refused, or none
abbrev pub refusal : LogState → Event → Option EventRefusal
refusal s Opens = None
refusal s (Precedes gtids) = unless refusals.Gap (has_come s.file s.come gtids)
refusal s (Names gtid) = unless refusals.Gtid (is_idle s.stage)
refusal s Begins = unless refusals.Transaction (is_named s.stage)
refusal s (Maps database table) = map_refusal s database table
refusal s (Columns columns) = unless refusals.Table (is_some s.mapping)
refusal s (Varies table column collation) = None
refusal s (Rows ends) = unless refusals.Transaction (is_begun s.stage)
refusal s (Row change) = row_refusal s change
refusal s Savepoint = unless refusals.Transaction (is_begun s.stage)
refusal s Commits = unless refusals.Transaction (not s.is_open && is_begun s.stage)
refusal s Maintains = unless refusals.Transaction (is_named s.stage)
refusal s Ends = unless refusals.Transaction (is_idle s.stage)

-- the statement maps a table of this name
abbrev pub has_table : LogState → List ℕ → Bool
has_table s name = is_some (find_table name s.tables)

-- ---- events, one after another

abbrev pub taken : Option EventRefusal → LogState → Result LogState EventRefusal
taken None new = Ok new
taken (Some refusal) new = Err refusal

abbrev pub step : LogState → Event → Result LogState EventRefusal
step s e = taken (refusal s e) (behind s e)

abbrev pub and_then : Result LogState EventRefusal → (LogState → Result LogState EventRefusal) → Result LogState EventRefusal
and_then (Ok s) next = next s
and_then (Err refusal) next = Err refusal

abbrev pub runs : LogState → List Event → Result LogState EventRefusal
runs s [] = Ok s
runs s (e ∷ es) = and_then (step s e) (λ t. runs t es)

-- before the first event, if these GTIDs are in the opening set
abbrev pub start : Gtids → LogState
start opening = record {
  stage = stages.Idle;
  gtid = record { source = 0; number = 1 };
  is_fresh = true;
  previous = set.empty;
  file = files.Unread;
  come = opening;
  is_over = false;
  is_open = false;
  mapping = None;
  tables = [];
  changes = [];
  entries = [];
  varied = [];
}

-- ---- calls

-- What a call did with an event: it is taken, or it is refused and nothing has changed, or there was a fault that may be.
abbrev pub TakesOr : (SetFault → Type 0) → Result (Unit {0}) EventFault → LogState → Event → LogState → Type 0
TakesOr may (Ok _) old event new = (refusal old event ≡ None) × (new ≡ behind old event)
TakesOr may (Err (faults.Refused reason)) old event new = (refusal old event ≡ Some reason) × (new ≡ old)
TakesOr may (Err (faults.Set fault)) old event new = may fault

-- the same of a call that asks for nothing
abbrev pub Takes : Result (Unit {0}) EventFault → LogState → Event → LogState → Type 0
Takes result old event new = TakesOr (λ fault. ⊥) result old event new

-- the same of one that asks for memory alone
abbrev pub TakesOrMemory : Result (Unit {0}) EventFault → LogState → Event → LogState → Type 0
TakesOrMemory result old event new = TakesOr (λ fault. fault ≡ Memory) result old event new

-- what a call found is why an event is refused, or that it isn't
abbrev pub Finds : Result (Unit {0}) EventFault → Option EventRefusal → Type 0
Finds (Ok _) refusal = refusal ≡ None
Finds (Err (faults.Refused reason)) refusal = refusal ≡ Some reason
Finds (Err (faults.Set fault)) refusal = ⊥

-- it is so of the set that was executed before, or of what came, with a set that joins them
abbrev pub OfJoined : (Gtids → Type 0) → LogState → Gtids → Type 0
OfJoined Has s gtids = ((s.is_fresh ≡ true) × Has (set.union s.previous gtids)) ⊎ ((is_later s.file ≡ false) × Has (set.union s.come gtids))

-- out of memory, or what was executed before, or what came, has too many sources or intervals with a set that joins them
abbrev pub IsPreviousFault : LogState → Gtids → SetFault → Type 0
IsPreviousFault s gtids fault = IsMemoryOr (OfJoined HasManySources s gtids) (OfJoined HasManyIntervals s gtids) fault

-- out of memory, or what came has too many sources or intervals with the GTID
abbrev pub IsNameFault : LogState → Gtid → SetFault → Type 0
IsNameFault s gtid fault = IsFaultOf fault (set.insert s.come gtid)
