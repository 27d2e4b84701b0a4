-- How far the events of files have come. Transactions of the opening set are passed over, whatever they hold.
use Rattle.std.specs.Prelude.{◌≡◌, ◌⊎◌, ℕ, ◌==◌, ◌||◌, ◌&&◌, not, Bool, true, false, List, [], ◌∷◌, Option, Some, None, Result, Ok, Err, if◌then◌else◌}
use Rattle.std.specs.FinSet as set
use Rattle.gtid_text.specs.declared.Gtid.{Gtid}
use Rattle.gtid_set.specs.Sets.{Gtids}
use Rattle.gtid_set.specs.declared.fault.SetFault.{SetFault}
use Rattle.gtid_set.specs.declared.fault.SetFault.TheVariants.{Memory}
use Rattle.journal_words.specs.Gtids.{IsWordFault}
use Rattle.log_transactions.specs.Events.{Event, Opens, Names}
use Rattle.log_transactions.specs.Machine.{LogState, named, behind, runs, IsNameFault, IsPreviousFault}
use Rattle.log_transactions.specs.Machine as machine
use Rattle.log_transactions.specs.declared.fault.EventRefusal.{EventRefusal}
use Rattle.binlog_frames.specs.Spelling.{Framed}
use Rattle.binlog_events.specs.Gtids.{gtid_of}
use Rattle.binlog_events.specs.Previous.{previous_text}
use Rattle.binlog_files.specs.Given.{Given}
use Rattle.binlog_files.specs.Tables.{Tables, no_tables, tables_after}
use Rattle.binlog_files.specs.Told.{told, set_said}
use Rattle.binlog_files.specs.declared.fault.FileFault.{FileFault}
use Rattle.binlog_files.specs.declared.fault.FileFault.TheVariants as faults
use Rattle.binlog_files.specs.declared.fault.FileRefusal.{FileRefusal}
use Rattle.binlog_files.specs.declared.fault.FileRefusal.TheVariants as refusals

-- the tables that are mapped, whether the transaction is one of the opening set, and the log
pub record FilesState : Type 0 where
  pub tables : Tables
  pub is_passed : Bool
  pub log : LogState

abbrev pub start : Gtids → FilesState
start opening = record { tables = no_tables; is_passed = false; log = machine.start opening }

-- ---- what is told to the log

abbrev pub of_log : Result LogState EventRefusal → Result LogState FileRefusal
of_log (Ok s) = Ok s
of_log (Err refusal) = Err (refusals.Event refusal)

abbrev pub told_to : LogState → Result (List Event) FileRefusal → Result LogState FileRefusal
told_to s (Ok events) = of_log (runs s events)
told_to s (Err refusal) = Err refusal

-- ---- events

abbrev pub with_log : FilesState → Framed → Result LogState FileRefusal → Result FilesState FileRefusal
with_log s e (Ok log) = Ok (record { tables = tables_after e.kind e.body s.tables; is_passed = s.is_passed; log = log })
with_log s e (Err refusal) = Err refusal

abbrev pub with_name : FilesState → Result LogState FileRefusal → Result FilesState FileRefusal
with_name s (Ok log) = Ok (record { tables = s.tables; is_passed = false; log = log })
with_name s (Err refusal) = Err refusal

-- a transaction begins: it is one of the opening set, or the log's
abbrev pub begin_transaction : Given → FilesState → Option Gtid → Result FilesState FileRefusal
begin_transaction given s None = Err refusals.Format
begin_transaction given s (Some gtid) =
    if set.contains given.opening gtid then Ok (record { tables = s.tables; is_passed = true; log = s.log })
    else with_name s (told_to s.log (Ok (Names gtid ∷ [])))

-- what is of no transaction, or begins one: STOP, ROTATE, FORMAT_DESCRIPTION, INCIDENT, ANONYMOUS_GTID, PREVIOUS_GTIDS and GTID_TAGGED
abbrev pub is_outside : ℕ → Bool
is_outside kind =
    (kind == 3) || ((kind == 4) || ((kind == 15) || ((kind == 26) || ((kind == 34) || ((kind == 35) || (kind == 42))))))

-- an operator answers for the statements of a transaction of which only its GTID has come
abbrev pub accepts : Gtids → Option Gtid → Bool
accepts accepted None = false
accepts accepted (Some gtid) = set.contains accepted gtid

abbrev pub is_accepted : Given → FilesState → Bool
is_accepted given s = accepts given.accepted (named s.log)

-- an event is taken; 33 is GTID
unfoldable pub take_event : Given → FilesState → Framed → Result FilesState FileRefusal
take_event given s e =
    if e.kind == 33 then begin_transaction given s (gtid_of e.body)
    else if s.is_passed && not (is_outside e.kind) then Ok s
    else with_log s e (told_to s.log (told s.tables (is_accepted given s) e))

abbrev pub and_then : Result FilesState FileRefusal → (FilesState → Result FilesState FileRefusal) → Result FilesState FileRefusal
and_then (Ok s) next = next s
and_then (Err refusal) next = Err refusal

-- events are taken, one after another
abbrev pub take_events : Given → FilesState → List Framed → Result FilesState FileRefusal
take_events given s [] = Ok s
take_events given s (e ∷ es) = and_then (take_event given s e) (λ t. take_events given t es)

-- ---- calls

-- What a call did with what is told: the log has it, or it is refused, or there was a fault that may be.
abbrev pub TellsOr : (SetFault → Type 0) → Result (Unit {0}) FileFault → LogState → Result (List Event) FileRefusal → LogState → Type 0
TellsOr may (Ok _) old events new = told_to old events ≡ Ok new
TellsOr may (Err (faults.Refused refusal)) old events new = told_to old events ≡ Err refusal
TellsOr may (Err (faults.Set fault)) old events new = may fault

-- the same of a call that asks for memory alone
abbrev pub Tells : Result (Unit {0}) FileFault → LogState → Result (List Event) FileRefusal → LogState → Type 0
Tells result old events new = TellsOr (λ fault. fault ≡ Memory) result old events new

-- why a previous set isn't taken, though nothing is wrong with it: it is full, or one that it joins is then
abbrev pub IsSetFault : LogState → Option Gtids → SetFault → Type 0
IsSetFault s None fault = ⊥
IsSetFault s (Some gtids) fault = IsPreviousFault (behind s Opens) gtids fault

abbrev pub IsTextFault : LogState → Option (List ℕ) → SetFault → Type 0
IsTextFault s None fault = ⊥
IsTextFault s (Some text) fault = IsWordFault fault (set_said text) ⊎ IsSetFault s (set_said text) fault

-- the same of the text that a previous set has, or out of memory
abbrev pub IsSaidFault : LogState → Option (List ℕ) → SetFault → Type 0
IsSaidFault s text fault = (fault ≡ Memory) ⊎ IsTextFault s text fault

abbrev pub IsGtidFault : LogState → Option Gtid → SetFault → Type 0
IsGtidFault s None fault = ⊥
IsGtidFault s (Some gtid) fault = IsNameFault s gtid fault

-- the same of what is told but a GTID
abbrev pub IsTellFault : LogState → Framed → SetFault → Type 0
IsTellFault s e fault = (fault ≡ Memory) ⊎ IsSaidFault s (previous_text e.body) fault

-- why an event isn't taken, though nothing is wrong with it: out of memory, or a set that it names or joins is full
abbrev pub IsEventFault : LogState → Framed → SetFault → Type 0
IsEventFault s e fault = IsGtidFault s (gtid_of e.body) fault ⊎ IsTellFault s e fault

-- What a call did with a GTID: it is the log's, or it is refused, or there was a fault that may be.
abbrev pub NamesOr : (SetFault → Type 0) → Result (Unit {0}) FileFault → FilesState → Gtid → FilesState → Type 0
NamesOr may (Ok _) old gtid new = with_name old (told_to old.log (Ok (Names gtid ∷ []))) ≡ Ok new
NamesOr may (Err (faults.Refused refusal)) old gtid new = with_name old (told_to old.log (Ok (Names gtid ∷ []))) ≡ Err refusal
NamesOr may (Err (faults.Set fault)) old gtid new = may fault

-- the same of a transaction that begins
abbrev pub BeginsOr : Given → Result (Unit {0}) FileFault → FilesState → Option Gtid → FilesState → Type 0
BeginsOr given (Ok _) old gtid new = begin_transaction given old gtid ≡ Ok new
BeginsOr given (Err (faults.Refused refusal)) old gtid new = begin_transaction given old gtid ≡ Err refusal
BeginsOr given (Err (faults.Set fault)) old gtid new = IsGtidFault old.log gtid fault

-- What a call did with an event: it is taken, or it is refused, or there was a fault that may be.
abbrev pub TakesEvent : Given → Result (Unit {0}) FileFault → FilesState → Framed → FilesState → Type 0
TakesEvent given (Ok _) old e new = take_event given old e ≡ Ok new
TakesEvent given (Err (faults.Refused refusal)) old e new = take_event given old e ≡ Err refusal
TakesEvent given (Err (faults.Set fault)) old e new = IsEventFault old.log e fault
