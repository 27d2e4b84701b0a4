-- The files of a log, one after another, of which each comes in pieces.
use Rattle.std.specs.Prelude.{◌≡◌, ◌⊎◌, ℕ, ◌<◌, Bool, true, false, List, ◌++◌, length, Some, None, Ok, Err}
use Rattle.gtid_set.specs.declared.fault.SetFault.{SetFault}
use Rattle.gtid_set.specs.declared.fault.SetFault.TheVariants.{Memory}
use Rattle.binlog_frames.specs.Spelling.{Framed}
use Rattle.binlog_frames.specs.Standing.{Standing, front_at, before, begin_of, Follows, EndsBadly}
use Rattle.binlog_frames.specs.Placed.{StaysWrong}
use Rattle.binlog_frames.specs.declared.fault.FrameFault.{FrameFault}
use Rattle.binlog_files.specs.Given.{Given}
use Rattle.binlog_files.specs.Moved.{files_state}
use Rattle.binlog_files.specs.Taking.{FilesState, take_event, take_events, IsEventFault}
use Rattle.binlog_files.specs.declared.fault.FileRefusal.{FileRefusal}
use Rattle.binlog_files.specs.declared.files.FilesFault.{FilesFault}
use Rattle.binlog_files.specs.declared.files.FilesFault.TheVariants as faults
use Rattle.binlog_files.specs.declared.files.LogFiles.{LogFiles}

-- ---- what a file gives

-- behind events that were taken this is wrong with the bytes
pub record IsDamaged (given : Given) (from : FilesState) (bytes : List ℕ) (fault : FrameFault) : Type 0 where
  pub events : List Framed
  pub ends : EndsBadly bytes events fault
  pub state : FilesState
  pub taken : take_events given from events ≡ Ok state

-- the events with which these bytes begin were taken
pub record HasTaken (given : Given) (from : FilesState) (bytes : List ℕ) (reading : Standing) (to : FilesState) : Type 0 where
  pub events : List Framed
  pub follows : Follows (before bytes) events reading
  pub taken : take_events given from events ≡ Ok to

-- the event at this offset is refused, behind others that were taken
pub record IsRefused (given : Given) (from : FilesState) (bytes : List ℕ) (offset : ℕ) (refusal : FileRefusal) : Type 0 where
  pub reading : Standing
  pub state : FilesState
  pub behind : HasTaken given from bytes reading state
  pub event : Framed
  pub front : front_at reading ≡ Ok (Some event)
  pub place : offset ≡ begin_of reading
  pub refused : take_event given state event ≡ Err refusal

-- there was no memory for the bytes, or an event behind others that were taken has this fault, though nothing is wrong with it
pub record HasEventFault (given : Given) (from : FilesState) (bytes : List ℕ) (fault : SetFault) : Type 0 where
  pub reading : Standing
  pub state : FilesState
  pub behind : HasTaken given from bytes reading state
  pub event : Framed
  pub front : front_at reading ≡ Ok (Some event)
  pub may : IsEventFault state.log event fault

-- why bytes aren't taken, behind this state
abbrev pub Stops : Given → FilesState → List ℕ → FilesFault → Type 0
Stops given from bytes (faults.Set fault) = (fault ≡ Memory) ⊎ HasEventFault given from bytes fault
Stops given from bytes (faults.Damaged fault) = IsDamaged given from bytes fault
Stops given from bytes (faults.Refused offset refusal) = IsRefused given from bytes offset refusal

-- ---- a file that comes in pieces

-- all events that the bytes have were taken, behind this state
abbrev pub HasCome : Given → FilesState → List ℕ → LogFiles → Type 0
HasCome given from bytes l = HasTaken given from bytes l.frames (files_state l.taken) × (front_at l.frames ≡ Ok None)

-- a piece comes
abbrev pub TakesOn : Given → LogFiles → LogFiles → List ℕ → Type 0
TakesOn given old new piece = (from : FilesState) (bytes : List ℕ) → HasCome given from bytes old → HasCome given from (bytes ++ piece) new

abbrev pub StopsOn : Given → LogFiles → List ℕ → FilesFault → Type 0
StopsOn given old piece fault = (from : FilesState) (bytes : List ℕ) → HasCome given from bytes old → Stops given from (bytes ++ piece) fault

-- ---- the event at the front

abbrev pub NextTaken : Given → Standing → FilesState → FilesState → Bool → Type 0
NextTaken given s old new true = (e : Framed) × (front_at s ≡ Ok (Some e)) × (take_event given old e ≡ Ok new)
NextTaken given s old new false = (front_at s ≡ Ok None) × (new ≡ old)

abbrev pub NextStops : Given → Standing → FilesState → FilesFault → Type 0
NextStops given s state (faults.Set fault) = (e : Framed) × (front_at s ≡ Ok (Some e)) × IsEventFault state.log e fault
NextStops given s state (faults.Damaged fault) = StaysWrong s fault
NextStops given s state (faults.Refused offset refusal) =
    (e : Framed) × (front_at s ≡ Ok (Some e)) × (offset ≡ begin_of s) × (take_event given state e ≡ Err refusal)

-- what was taken stays taken, with one event more
pub record TakenOne (given : Given) (s t : Standing) (old new : FilesState) : Type 0 where
  pub taken : (from : FilesState) (bytes : List ℕ) → HasTaken given from bytes s old → HasTaken given from bytes t new
  pub fewer : length t.left < length s.left

abbrev pub FrontTaken : Given → Standing → Standing → FilesState → FilesState → Bool → Type 0
FrontTaken given s t old new true = TakenOne given s t old new
FrontTaken given s t old new false = (front_at s ≡ Ok None) × (t ≡ s) × (new ≡ old)

-- all events that are whole were taken
abbrev pub AllTaken : Given → Standing → Standing → FilesState → FilesState → Type 0
AllTaken given s t old new = ((from : FilesState) (bytes : List ℕ) → HasTaken given from bytes s old → HasTaken given from bytes t new) × (front_at t ≡ Ok None)

abbrev pub AllStop : Given → Standing → FilesState → FilesFault → Type 0
AllStop given s old fault = (from : FilesState) (bytes : List ℕ) → HasTaken given from bytes s old → Stops given from bytes fault
