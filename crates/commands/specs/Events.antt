-- What the command `events` reads and writes. The lines are our own.
use Rattle.std.specs.Prelude.{◌≡◌, ◌⊎◌, ℕ, List, ◌++◌, Option, Some, None}
use Rattle.std.specs.Io.KnownBytes.{Consumes}
use Rattle.binlog_frames.specs.declared.fault.FrameFault.{FrameFault}
use Rattle.binlog_events.specs.Listing.{Lists, HasCome, BeginsListing, refused_line}
use Rattle.binlog_events.specs.declared.lister.EventLister.{EventLister}
use Rattle.binlog_events.specs.declared.row_lines.EventDetail.{EventDetail}
use Rattle.commands.specs.Edge.{Output, StreamsValue, Begins, HasRead, IsReadFault, one_more}
use Rattle.commands.specs.Printed.{Printed, to_all, HasStopped}
use Rattle.commands.specs.States.{HasWritten, HasBroken}
use Rattle.commands.specs.declared.edge.Outcome.TheVariants.{Done, Refused}
use Rattle.commands.specs.declared.edge.RunFault.{RunFault}
use Rattle.commands.specs.declared.edge.RunFault.TheVariants.{Memory, Read, Write}

-- the lines of events, and behind them the line of the first fault, if there is one
abbrev pub listed : List ℕ → Option FrameFault → Printed
listed text None = record { text = text; outcome = Done }
listed text (Some f) = record { text = text ++ refused_line f; outcome = Refused }

-- it is the answer of `events` to these bytes: the lines of all events that they have before their first fault
pub record IsEventsAnswer (d : EventDetail) (bytes : List ℕ) (printed : Printed) : Type 0 where
  pub text : List ℕ
  pub fault : Option FrameFault
  pub lists : Lists d bytes text fault
  pub printed_is : printed ≡ listed text fault

-- ---- a file that is listed while it is read

-- all bytes were read, and the lines of their events were written
pub record ListsAll {S W : Type 0} (d : EventDetail) (old new : StreamsValue S W) (fault : Option FrameFault) : Type 0 where
  pub bytes : List ℕ
  pub text : List ℕ
  pub read : HasRead old.input.left new.input.left bytes
  pub lists : Lists d bytes text fault
  pub wrote : HasWritten old.output new.output text

-- why it ended early
abbrev pub EndsFor : {S W : Type 0} → StreamsValue S W → StreamsValue S W → RunFault → Type 0
EndsFor old new Memory = new.output.failed ≡ old.output.failed
EndsFor old new Read = IsReadFault old.input new.input × (new.output.failed ≡ old.output.failed)
EndsFor old new Write = new.output.failed ≡ one_more old.output.failed

-- it ended early: what was read begins with bytes that begin with events, of whose lines a prefix was written
pub record BreaksOff {S W : Type 0} (d : EventDetail) (old new : StreamsValue S W) (fault : RunFault) : Type 0 where
  pub bytes : List ℕ
  pub front : List ℕ
  pub rest : List ℕ
  pub text : List ℕ
  pub read : Consumes old.input.left new.input.left bytes
  pub cut : bytes ≡ front ++ rest
  pub listed : BeginsListing d front text
  pub wrote : Begins old.output.written new.output.written text
  pub why : EndsFor old new fault

-- it ended early while it was listed, or within the line of the first fault
abbrev pub HasEndedEarly : {S W : Type 0} → EventDetail → StreamsValue S W → StreamsValue S W → RunFault → Type 0
HasEndedEarly d old new fault = BreaksOff d old new fault ⊎ HasStopped (to_all (IsEventsAnswer d)) old new fault

-- ---- one piece

-- the lines of the events that are whole with this piece were written
pub record PieceListed {W : Type 0} (d : EventDetail) (new : EventLister) (before : Output W) (after : Output W) (bytes text : List ℕ) : Type 0 where
  pub added : List ℕ
  pub wrote : HasWritten before after added
  pub come : HasCome d new bytes (text ++ added)
  pub begins : BeginsListing d bytes (text ++ added)

abbrev pub ListsPiece : {W : Type 0} → EventLister → EventLister → List ℕ → Output W → Output W → Type 0
ListsPiece l m piece before after =
    (d : EventDetail) (bytes text : List ℕ) → HasCome d l bytes text → PieceListed d m before after (bytes ++ piece) text

-- a prefix of these lines was written
pub record PieceBroken {W : Type 0} (d : EventDetail) (before after : Output W) (bytes text : List ℕ) : Type 0 where
  pub added : List ℕ
  pub wrote : HasBroken before after added Write
  pub begins : BeginsListing d bytes (text ++ added)

abbrev pub BreaksPiece : {W : Type 0} → EventLister → List ℕ → Output W → Output W → RunFault → Type 0
BreaksPiece l piece before after Memory = after ≡ before
BreaksPiece l piece before after Read = ⊥
BreaksPiece l piece before after Write =
    (d : EventDetail) (bytes text : List ℕ) → HasCome d l bytes text → PieceBroken d before after (bytes ++ piece) text
