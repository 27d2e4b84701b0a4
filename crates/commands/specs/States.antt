-- What the command `states` prints, and how it ends. The lines are our own.
use Rattle.std.specs.Prelude.{◌≡◌, ℕ, List, Result, Ok, Err}
use Rattle.std.specs.Io.KnownBytes.{Appends}
use Rattle.std.specs.Str.Lossy.{utf8_lossy}
use Rattle.gtid_report.specs.declared.fault.Fault.{Fault}
use Rattle.server_states.specs.States.{states_in}
use Rattle.commands.specs.Edge.{Output, Begins, one_more}
use Rattle.commands.specs.Printed.{Printed, printed_fault}
use Rattle.commands.specs.declared.edge.Outcome.TheVariants.{Done}
use Rattle.commands.specs.declared.edge.RunFault.{RunFault}
use Rattle.commands.specs.declared.edge.RunFault.TheVariants.{Memory, Read, Write}

-- the text of an answer, or the line of its refusal
abbrev pub printed_text : Result (List ℕ) Fault → Printed
printed_text (Ok text) = record { text = text; outcome = Done }
printed_text (Err f) = printed_fault f

-- the answer for the servers in these bytes; a sequence that is no UTF-8 is read as the character U+FFFD, which no word has
abbrev pub states_answer : List ℕ → Printed
states_answer bytes = printed_text (states_in (utf8_lossy bytes))

abbrev pub IsStatesAnswer : List ℕ → Printed → Type 0
IsStatesAnswer bytes printed = printed ≡ states_answer bytes

-- ---- lines that are written one after another

-- this text was written whole
pub record HasWritten {W : Type 0} (old new : Output W) (text : List ℕ) : Type 0 where
  pub wrote : Appends old.written new.written text
  pub calm : new.failed ≡ old.failed

-- why a text was not written whole, and a prefix of it was
abbrev pub HasBroken : {W : Type 0} → Output W → Output W → List ℕ → RunFault → Type 0
HasBroken old new text Memory = Begins old.written new.written text × (new.failed ≡ old.failed)
HasBroken old new text Write = Begins old.written new.written text × (new.failed ≡ one_more old.failed)
HasBroken old new text Read = ⊥

-- these lines can be made, and were written
abbrev pub WritesLines : {W : Type 0} → Result (List ℕ) Fault → Output W → Output W → Type 0
WritesLines want old new = (text : List ℕ) × (want ≡ Ok text) × HasWritten old new text

-- why they were not
abbrev pub BreaksLines : {W : Type 0} → Result (List ℕ) Fault → Output W → Output W → RunFault → Type 0
BreaksLines want old new fault = (text : List ℕ) × (want ≡ Ok text) × HasBroken old new text fault
