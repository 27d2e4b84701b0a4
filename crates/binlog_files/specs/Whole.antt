-- The files of a whole log, and what their events tell.
use Rattle.std.specs.Prelude.{◌≡◌, ◌⊎◌, ℕ, ◌+◌, ◌==◌, ◌&&◌, not, Bool, true, false, List, [], ◌∷◌, ◌++◌, length, Option, Some, None, Result, Ok, Err, if◌then◌else◌}
use Rattle.std.specs.FinSet as set
use Rattle.std.specs.List.{list_any}
use Rattle.gtid_text.specs.declared.Gtid.{Gtid}
use Rattle.gtid_set.specs.Sets.{Gtids}
use Rattle.gtid_set.specs.declared.fault.SetFault.TheVariants.{Memory}
use Rattle.journal.specs.declared.Entry.{Entry}
use Rattle.log_transactions.specs.Events.{Event, Names}
use Rattle.log_transactions.specs.Machine.{is_idle}
use Rattle.log_transactions.specs.Meaning.{AreOfLog}
use Rattle.log_transactions.specs.declared.fault.EventRefusal.TheVariants.{Transaction}
use Rattle.log_transactions.specs.declared.varied.Varied.{Varied}
use Rattle.binlog_frames.specs.Spelling.{Framed}
use Rattle.binlog_frames.specs.Reading.{is_checked}
use Rattle.binlog_frames.specs.Standing.{Standing, front_at, passed, before, begin_of, EndsWell}
use Rattle.binlog_frames.specs.declared.fault.FrameFault.{FrameFault}
use Rattle.binlog_events.specs.Gtids.{gtid_of}
use Rattle.binlog_files.specs.Given.{Given}
use Rattle.binlog_files.specs.Files.{HasTaken, HasCome, IsDamaged, Stops}
use Rattle.binlog_files.specs.Moved.{files_state}
use Rattle.binlog_files.specs.Taking.{FilesState, is_outside, is_accepted, start, take_event, take_events}
use Rattle.binlog_files.specs.Told.{told}
use Rattle.binlog_files.specs.declared.fault.FileRefusal.{FileRefusal}
use Rattle.binlog_files.specs.declared.fault.FileRefusal.TheVariants as refusals
use Rattle.binlog_files.specs.declared.files.FilesFault.{FilesFault}
use Rattle.binlog_files.specs.declared.files.FilesFault.TheVariants as faults
use Rattle.binlog_files.specs.declared.files.LogFiles.{LogFiles}
use Rattle.binlog_files.specs.declared.whole.FiledFault.{FiledFault}

-- ---- what events tell

abbrev pub name_told : Given → Option Gtid → List Event
name_told given None = []
name_told given (Some gtid) = if set.contains given.opening gtid then [] else Names gtid ∷ []

abbrev pub events_told : Result (List Event) FileRefusal → List Event
events_told (Ok events) = events
events_told (Err refusal) = []

-- what an event tells: those of transactions of the opening set tell nothing
abbrev pub event_told : Given → FilesState → Framed → List Event
event_told given s e =
    if e.kind == 33 then name_told given (gtid_of e.body)
    else if s.is_passed && not (is_outside e.kind) then []
    else events_told (told s.tables (is_accepted given s) e)

abbrev pub told_behind : Result FilesState FileRefusal → (FilesState → List Event) → List Event
told_behind (Ok t) next = next t
told_behind (Err refusal) next = []

-- what events tell, one after another
abbrev pub told_by : Given → FilesState → List Framed → List Event
told_by given s [] = []
told_by given s (e ∷ es) = event_told given s e ++ told_behind (take_event given s e) (λ t. told_by given t es)

-- ---- files

-- the bytes are a file whose events these are; they are taken, behind this state, and tell these of the log, and no transaction is open
-- at the end
pub record TakesFile (given : Given) (from : FilesState) (bytes : List ℕ) (tells : List Event) (to : FilesState) : Type 0 where
  pub events : List Framed
  pub ends : EndsWell bytes events
  pub taken : take_events given from events ≡ Ok to
  pub idle : is_idle to.log.stage ≡ true
  pub tell : tells ≡ told_by given from events

-- files, one after another
pub data TakesFiles (given : Given) (from : FilesState) : List (List ℕ) → List Event → FilesState → Type 0 where
  NoFile : TakesFiles given from [] [] from
  AndFile : (files : List (List ℕ)) (bytes : List ℕ) (tells more : List Event) (mid to : FilesState) → TakesFiles given from files tells mid → TakesFile given mid bytes more to
      → TakesFiles given from (files ++ bytes ∷ []) (tells ++ more) to

-- If files of a log were taken up to this state, what they tell is of a log, by the rules of log_transactions: each event may stand where it
-- does, what they mean is what the entries denote, and between two files nothing lacks.
abbrev pub IsLogOfFiles : FilesState → Gtids → List Entry → List Varied → Type 0
IsLogOfFiles to previous entries varied =
    (given : Given) (files : List (List ℕ)) (tells : List Event) → TakesFiles given (start given.opening) files tells to → AreOfLog given.opening tells previous entries varied

abbrev pub is_previous : Result (Option Framed) FrameFault → Bool
is_previous (Ok (Some e)) = e.kind == 35
is_previous _ = false

abbrev pub behind_front : Standing → Result (Option Framed) FrameFault → Standing
behind_front s (Ok (Some d)) = passed s d
behind_front s _ = s

-- behind the first event of the file whose bytes these are
abbrev pub second_at : List ℕ → Standing
second_at bytes = behind_front (before bytes) (front_at (before bytes))

-- where the second event of that file begins, if it is no PREVIOUS_GTIDS, or would begin, if there is none
abbrev pub unlisted_at : List ℕ → Option ℕ
unlisted_at bytes = if is_previous (front_at (second_at bytes)) then None else Some (begin_of (second_at bytes))

abbrev pub is_unlisted : List ℕ → Bool
is_unlisted bytes = not (is_previous (front_at (second_at bytes)))

-- These files, one after another, are a log with these entries: they are taken from the first state on, and what they tell is of such a log,
-- by the rules of log_transactions; and the second event of each file is its previous set. No files are a log without entries.
pub record AreFilesOf (given : Given) (files : List (List ℕ)) (previous : Gtids) (entries : List Entry) (varied : List Varied) : Type 0 where
  pub tells : List Event
  pub last : FilesState
  pub taken : TakesFiles given (start given.opening) files tells last
  pub log : AreOfLog given.opening tells previous entries varied
  pub begin : list_any is_unlisted files ≡ false

-- the FORMAT_DESCRIPTION says that the events behind it have no checksums
abbrev pub says_unchecked : Result (Option Framed) FrameFault → Bool
says_unchecked (Ok (Some d)) = not (is_checked d)
says_unchecked _ = false

-- the same of that of the file whose bytes these are
abbrev pub has_no_checksums : List ℕ → Bool
has_no_checksums bytes = says_unchecked (front_at (before bytes))

-- ---- calls

-- the file ends within a transaction, behind events that were taken
pub record IsOpen (given : Given) (from : FilesState) (bytes : List ℕ) (offset : ℕ) : Type 0 where
  pub reading : Standing
  pub state : FilesState
  pub behind : HasTaken given from bytes reading state
  pub place : offset ≡ begin_of reading
  pub unended : is_idle state.log.stage ≡ false

-- why a file may not end behind these bytes
abbrev pub StopsAtEnd : Given → FilesState → List ℕ → FilesFault → Type 0
StopsAtEnd given from bytes (faults.Set fault) = ⊥
StopsAtEnd given from bytes (faults.Damaged fault) = IsDamaged given from bytes fault
StopsAtEnd given from bytes (faults.Refused offset refusal) = (refusal ≡ refusals.Event Transaction) × IsOpen given from bytes offset

-- the file is taken, and the next one begins
pub record HasEnded (given : Given) (from : FilesState) (bytes : List ℕ) (new : LogFiles) : Type 0 where
  pub tells : List Event
  pub file : TakesFile given from bytes tells (files_state new.taken)
  pub next : HasCome given (files_state new.taken) [] new

abbrev pub EndsFile : LogFiles → LogFiles → Type 0
EndsFile old new = (given : Given) (from : FilesState) (bytes : List ℕ) → HasCome given from bytes old → HasEnded given from bytes new

abbrev pub StopsFile : LogFiles → FilesFault → Type 0
StopsFile old fault = (given : Given) (from : FilesState) (bytes : List ℕ) → HasCome given from bytes old → StopsAtEnd given from bytes fault

-- ---- files that are there whole

-- its second event is no PREVIOUS_GTIDS, or there was no memory to look at it
abbrev pub IsUnlisted : List ℕ → FilesFault → Type 0
IsUnlisted bytes (faults.Set fault) = fault ≡ Memory
IsUnlisted bytes (faults.Damaged fault) = ⊥
IsUnlisted bytes (faults.Refused offset refusal) = (refusal ≡ refusals.Previous) × (unlisted_at bytes ≡ Some offset)

-- why a file isn't taken, behind this state
abbrev pub StopsInFile : Given → FilesState → List ℕ → FilesFault → Type 0
StopsInFile given from bytes fault = Stops given from bytes fault ⊎ (StopsAtEnd given from bytes fault ⊎ IsUnlisted bytes fault)

-- the file of this number, counted from 1, isn't taken, behind those before it
pub record StopsAtFile (given : Given) (files : List (List ℕ)) (file : ℕ) (fault : FilesFault) : Type 0 where
  pub taken : List (List ℕ)
  pub bytes : List ℕ
  pub others : List (List ℕ)
  pub parts : files ≡ taken ++ bytes ∷ others
  pub number : file ≡ length taken + 1
  pub tells : List Event
  pub state : FilesState
  pub behind : TakesFiles given (start given.opening) taken tells state
  pub stops : StopsInFile given state bytes fault

-- the same, or there was no memory to begin
abbrev pub StopsInFiles : Given → List (List ℕ) → FiledFault → Type 0
StopsInFiles given files f = ((f.file ≡ 1) × (f.fault ≡ faults.Set Memory)) ⊎ StopsAtFile given files f.file f.fault

-- a file is taken whole, and whether it has no checksums
pub record HasFile (given : Given) (from : FilesState) (bytes : List ℕ) (new : LogFiles) (is_unchecked : Bool) : Type 0 where
  pub ended : HasEnded given from bytes new
  pub begins : is_unlisted bytes ≡ false
  pub checks : is_unchecked ≡ has_no_checksums bytes

abbrev pub TakesWhole : Given → LogFiles → List ℕ → LogFiles → Bool → Type 0
TakesWhole given old bytes new is_unchecked = (from : FilesState) → HasCome given from [] old → HasFile given from bytes new is_unchecked

abbrev pub StopsWhole : Given → LogFiles → List ℕ → FilesFault → Type 0
StopsWhole given old bytes fault = (from : FilesState) → HasCome given from [] old → StopsInFile given from bytes fault

-- files were taken whole, from the first state on, and whether one of them has no checksums
pub record HaveFiles (given : Given) (files : List (List ℕ)) (l : LogFiles) (is_unchecked : Bool) : Type 0 where
  pub tells : List Event
  pub taken : TakesFiles given (start given.opening) files tells (files_state l.taken)
  pub come : HasCome given (files_state l.taken) [] l
  pub begin : list_any is_unlisted files ≡ false
  pub checks : is_unchecked ≡ list_any has_no_checksums files
