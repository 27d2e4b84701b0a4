-- The lines of the events of a file that comes in pieces.
use Rattle.std.specs.Prelude.{◌≡◌, ℕ, ◌<◌, List, [], ◌∷◌, ◌++◌, length, Option, Some, None, Ok, codes, decimal}
use Rattle.binlog_frames.specs.declared.fault.FaultKind.{FaultKind}
use Rattle.binlog_frames.specs.declared.fault.FaultKind.TheVariants.{Magic, Encrypted, Description, Length, Position, Checksum, Truncated}
use Rattle.binlog_frames.specs.declared.fault.FrameFault.{FrameFault}
use Rattle.binlog_frames.specs.Spelling.{Framed}
use Rattle.binlog_frames.specs.Standing.{Standing, front_at, before, Follows, EndsWell, EndsBadly}
use Rattle.binlog_frames.specs.Placed.{Placed, placed, placed_at, StaysWrong}
use Rattle.binlog_events.specs.Names.{Names, names_in, no_names, names_after}
use Rattle.binlog_events.specs.Lines.{event_line}
use Rattle.binlog_events.specs.RowLines.{rows_beneath}
use Rattle.binlog_events.specs.declared.row_lines.EventDetail.{EventDetail}
use Rattle.binlog_events.specs.declared.lister.EventLister.{EventLister}
use Rattle.binlog_events.specs.declared.lister.Front.{Front}
use Rattle.binlog_events.specs.declared.lister.Front.TheVariants as fronts

-- ---- what a file gives

-- the line of an event, and those of its rows, if they are asked for
abbrev pub event_lines : EventDetail → Names → Placed → List ℕ
event_lines d names p = event_line names p ++ rows_beneath d names p.event.kind p.event.body

-- the lines of events, where these tables are mapped before them
unfoldable pub lines_from : EventDetail → Names → List Placed → List ℕ
lines_from d names [] = []
lines_from d names (p ∷ ps) = event_lines d names p ++ lines_from d (names_after p.event.kind p.event.body names) ps

-- the tables that are mapped behind events
unfoldable pub names_from : Names → List Placed → Names
names_from names [] = names
names_from names (p ∷ ps) = names_from (names_after p.event.kind p.event.body names) ps

-- the lines of the events of a file
abbrev pub lines_of : EventDetail → List Framed → List ℕ
lines_of d es = lines_from d no_names (placed es)

-- all bytes are these events, and the text is their lines
pub record HasLines (d : EventDetail) (bytes text : List ℕ) : Type 0 where
  pub events : List Framed
  pub ends : EndsWell bytes events
  pub lines : text ≡ lines_of d events

-- the text is the lines of the events before this fault
pub record HasFault (d : EventDetail) (bytes text : List ℕ) (f : FrameFault) : Type 0 where
  pub events : List Framed
  pub ends : EndsBadly bytes events f
  pub lines : text ≡ lines_of d events

-- the lines of a file, and its first fault, if it has one
abbrev pub Lists : EventDetail → List ℕ → List ℕ → Option FrameFault → Type 0
Lists d bytes text None = HasLines d bytes text
Lists d bytes text (Some f) = HasFault d bytes text f

-- ---- what is refused

abbrev pub fault_word : FaultKind → List ℕ
fault_word Magic = codes "magic"
fault_word Encrypted = codes "encrypted"
fault_word Description = codes "description"
fault_word Length = codes "length"
fault_word Position = codes "position"
fault_word Checksum = codes "checksum"
fault_word Truncated = codes "truncated"

abbrev pub fault_text : FrameFault → List ℕ
fault_text f = decimal f.offset ++ 32 ∷ (fault_word f.kind ++ 10 ∷ [])

-- the line of a fault
abbrev pub refused_line : FrameFault → List ℕ
refused_line f = codes "refused binlog " ++ fault_text f

-- ---- a file that comes in pieces

-- the events that were read of these bytes have these lines, and map these tables
pub record HasListed (d : EventDetail) (reading : Standing) (names : Names) (bytes text : List ℕ) : Type 0 where
  pub events : List Framed
  pub follows : Follows (before bytes) events reading
  pub names_are : names ≡ names_from no_names (placed events)
  pub lines : text ≡ lines_of d events

-- the events that are whole in these bytes have these lines: all of them are read, or what is wrong behind them is so whatever comes
abbrev pub IsListed : EventDetail → Standing → Names → List ℕ → List ℕ → Option FrameFault → Type 0
IsListed d reading names bytes text None = HasListed d reading names bytes text × (front_at reading ≡ Ok None)
IsListed d reading names bytes text (Some f) = (more : List ℕ) → HasFault d (bytes ++ more) text f

-- the text is the lines of the events that the bytes so far have, in such detail
abbrev pub HasCome : EventDetail → EventLister → List ℕ → List ℕ → Type 0
HasCome d l bytes text = (l.detail ≡ d) × IsListed d l.frames (names_in l.names) bytes text l.fault

-- the text is the lines of events with which the bytes begin
pub record BeginsListing (d : EventDetail) (bytes text : List ℕ) : Type 0 where
  pub events : List Framed
  pub last : Standing
  pub follows : Follows (before bytes) events last
  pub lines : text ≡ lines_of d events

abbrev pub BeginsAsListed : EventLister → Type 0
BeginsAsListed l = (d : EventDetail) (bytes text : List ℕ) → HasCome d l bytes text → BeginsListing d bytes text

-- a piece comes, and the lines of the events that are whole now are put behind others
abbrev pub ListsOn : EventLister → EventLister → List ℕ → List ℕ → List ℕ → Type 0
ListsOn l m piece old new =
    (d : EventDetail) (bytes text : List ℕ) → HasCome d l bytes (text ++ old) → HasCome d m (bytes ++ piece) (text ++ new)

-- ---- one event of these

-- the lines of the event at the front were put behind others, and what it maps is mapped
pub record PutsEvent (d : EventDetail) (s : Standing) (m n : Names) (old new : List ℕ) : Type 0 where
  pub event : Framed
  pub front : front_at s ≡ Ok (Some event)
  pub names_are : n ≡ names_after event.kind event.body m
  pub put : new ≡ old ++ event_lines d m (placed_at s event)

-- what was at the front: an event, nothing yet, or a fault
abbrev pub PutsFront : EventDetail → Standing → Names → Names → List ℕ → List ℕ → Front → Type 0
PutsFront d s m n old new fronts.Passed = PutsEvent d s m n old new
PutsFront d s m n old new fronts.NotYet = (front_at s ≡ Ok None) × (n ≡ m) × (new ≡ old)
PutsFront d s m n old new (fronts.Fault f) = StaysWrong s f × (new ≡ old)

-- what was listed stays listed, with one event more
pub record TakesEvent (d : EventDetail) (s t : Standing) (m n : Names) (old new : List ℕ) : Type 0 where
  pub listed : (bytes text : List ℕ) → HasListed d s m bytes (text ++ old) → HasListed d t n bytes (text ++ new)
  pub fewer : length t.left < length s.left

abbrev pub TakesFront : EventDetail → Standing → Standing → Names → Names → List ℕ → List ℕ → Front → Type 0
TakesFront d s t m n old new fronts.Passed = TakesEvent d s t m n old new
TakesFront d s t m n old new fronts.NotYet = (front_at s ≡ Ok None) × (t ≡ s) × (n ≡ m) × (new ≡ old)
TakesFront d s t m n old new (fronts.Fault f) = StaysWrong s f × (new ≡ old)

-- all events that are whole were taken
abbrev pub Drains : EventDetail → Standing → Standing → Names → Names → List ℕ → List ℕ → Option FrameFault → Type 0
Drains d s t m n old new found = (bytes text : List ℕ) → HasListed d s m bytes (text ++ old) → IsListed d t n bytes (text ++ new) found
