-- What a command reads, and what it answers.
use Rattle.std.specs.Prelude.{◌≡◌, ◌⊎◌, ℕ, List, [], ◌∷◌, ◌++◌, Result, Ok, Err}
use Rattle.std.specs.Io.KnownBytes.{Appends}
use Rattle.gtid_set.specs.declared.fault.SetFault.{SetFault}
use Rattle.gtid_set.specs.declared.fault.SetFault.TheVariants as sets
use Rattle.txn_journal.specs.declared.fault.JournalFault.{JournalFault}
use Rattle.txn_journal.specs.declared.fault.JournalFault.TheVariants as journals
use Rattle.gtid_report.specs.Refusals.{refusal_line}
use Rattle.gtid_report.specs.Faults.{journal_fault}
use Rattle.gtid_report.specs.declared.refusal.Refusal.{Refusal}
use Rattle.gtid_report.specs.declared.refusal.Refusal.TheVariants as refusal
use Rattle.gtid_report.specs.declared.fault.Fault.{Fault}
use Rattle.gtid_report.specs.declared.fault.Fault.TheVariants as fault
use Rattle.commands.specs.Edge.{StreamsValue, Input, one_more, Begins, HasRead, IsReadFault}
use Rattle.commands.specs.declared.answer.Answer.{Answer}
use Rattle.commands.specs.declared.edge.Outcome.{Outcome}
use Rattle.commands.specs.declared.edge.Outcome.TheVariants.{Refused}
use Rattle.commands.specs.declared.edge.RunFault.{RunFault}
use Rattle.commands.specs.declared.edge.RunFault.TheVariants.{Memory, Read, Write}

-- what is printed, and how the command ends
pub record Printed : Type 0 where
  pub text : List ℕ
  pub outcome : Outcome

abbrev pub with_line_feed : List ℕ → List ℕ
with_line_feed line = line ++ 10 ∷ []

abbrev pub refused_with : Refusal → Printed
refused_with r = record { text = with_line_feed (refusal_line r); outcome = Refused }

-- the line of a fault; out of memory has none
abbrev pub printed_fault : Fault → Printed
printed_fault (fault.Refused r) = refused_with r
printed_fault fault.Memory = record { text = []; outcome = Refused }

-- the answer to what was decoded, or the line of the refusal
abbrev pub answer_of : {V : Type 0} → (V → Printed) → Result V JournalFault → Printed
answer_of answers (Ok value) = answers value
answer_of answers (Err f) = printed_fault (journal_fault f)

-- A set is not made by this fault: one that reading the bytes makes, or one for the answer to what they parse as.
abbrev pub IsFullFor : {V : Type 0} → (List ℕ → Result V JournalFault → Type 0) → (List ℕ → Result V JournalFault) → (V → SetFault → Type 0) → List ℕ → SetFault → Type 0
IsFullFor {V} Parses decoded MayFail bytes f =
    Parses bytes (Err (journals.Set f)) ⊎ ((value : V) × Parses bytes (Ok value) × (decoded bytes ≡ Ok value) × MayFail value f)

-- a set has too many sources, or too many intervals, and it is the line of that
abbrev pub IsFullAnswer : (SetFault → Type 0) → Printed → Type 0
IsFullAnswer may printed =
    (may sets.SourcesFull × (printed ≡ refused_with refusal.SourcesFull))
    ⊎ (may sets.PoolFull × (printed ≡ refused_with refusal.PoolFull))

-- It is the answer to what the bytes parse as, by the reader's fold and by the grammar; or a set has too many sources or intervals, and it
-- is the line of that.
abbrev pub IsAnswerTo : {V : Type 0} → (List ℕ → Result V JournalFault → Type 0) → (List ℕ → Result V JournalFault) → (V → Printed) → (V → SetFault → Type 0) → List ℕ → Printed → Type 0
IsAnswerTo Parses decoded answers MayFail bytes printed =
    (Parses bytes (decoded bytes) × (printed ≡ answer_of answers (decoded bytes)))
    ⊎ IsFullAnswer (IsFullFor Parses decoded MayFail bytes) printed

-- the code's answer denotes this one
abbrev pub Holds : Answer → Printed → Type 0
Holds answer printed = (answer.text ≡ printed.text) × (answer.outcome ≡ printed.outcome)

-- the code's answer is the answer to these bytes
abbrev pub HoldsOne : (List ℕ → Printed → Type 0) → List ℕ → Answer → Type 0
HoldsOne answers bytes answer = (printed : Printed) × answers bytes printed × Holds answer printed

-- the answer, or the line of the refusal, is the answer to these bytes; or out of memory
abbrev pub Finds : (List ℕ → Printed → Type 0) → List ℕ → Result Answer Fault → Type 0
Finds answers bytes (Ok answer) = HoldsOne answers bytes answer
Finds answers bytes (Err (fault.Refused r)) = answers bytes (refused_with r)
Finds answers bytes (Err fault.Memory) = Unit {0}

-- there is no answer: out of memory, or a set for it has too many sources or intervals, if that may be
abbrev pub GivesUp : (SetFault → Type 0) → Fault → Type 0
GivesUp may fault.Memory = Unit {0}
GivesUp may (fault.Refused r) = ((r ≡ refusal.SourcesFull) × may sets.SourcesFull) ⊎ ((r ≡ refusal.PoolFull) × may sets.PoolFull)

-- an answer is taken as it is, and for a refusal there is its line
abbrev pub Settles : Result Answer Fault → Answer → Type 0
Settles (Ok found) answer = answer ≡ found
Settles (Err (fault.Refused r)) answer = Holds answer (refused_with r)
Settles (Err fault.Memory) answer = ⊥

-- What a command's answer depends on: its words alone, with nothing read, or all bytes that it reads.
pub data Answering : Type 1 where
  at_once : Printed → Answering
  to_all : (List ℕ → Printed → Type 0) → Answering

-- it is the answer to what was read
abbrev pub IsAnswer : {S : Type 0} → Answering → Input S → Input S → Printed → Type 0
IsAnswer (at_once answer) old new printed = (new ≡ old) × (printed ≡ answer)
IsAnswer (to_all answers) old new printed = (bytes : List ℕ) × HasRead old.left new.left bytes × answers bytes printed

-- a read failed, if the answer needs one
abbrev pub IsUnread : {S : Type 0} → Answering → Input S → Input S → Type 0
IsUnread (at_once answer) old new = ⊥
IsUnread (to_all answers) old new = IsReadFault old new

-- The answer was written, and nothing else.
pub record IsDone {S W : Type 0} (answering : Answering) (old new : StreamsValue S W) (outcome : Outcome) : Type 0 where
  pub printed : Printed
  pub answer : IsAnswer answering old.input new.input printed
  pub wrote : Appends old.output.written new.output.written printed.text
  pub ends : outcome ≡ printed.outcome

-- The writer failed once more, and a prefix of the answer was written.
pub record IsCutOff {S W : Type 0} (answering : Answering) (old new : StreamsValue S W) : Type 0 where
  pub printed : Printed
  pub answer : IsAnswer answering old.input new.input printed
  pub wrote : Begins old.output.written new.output.written printed.text
  pub counted : new.output.failed ≡ one_more old.output.failed

-- Out of memory after a prefix of the answer, which was written.
pub record HasBegun {S W : Type 0} (answering : Answering) (old new : StreamsValue S W) : Type 0 where
  pub printed : Printed
  pub answer : IsAnswer answering old.input new.input printed
  pub wrote : Begins old.output.written new.output.written printed.text
  pub calm : new.output.failed ≡ old.output.failed

-- Out of memory, with nothing written or after a prefix of the answer; or reading failed, and nothing was written; or writing failed.
abbrev pub HasStopped : {S W : Type 0} → Answering → StreamsValue S W → StreamsValue S W → RunFault → Type 0
HasStopped answering old new Memory = (new.output ≡ old.output) ⊎ HasBegun answering old new
HasStopped answering old new Read = (new.output ≡ old.output) × IsUnread answering old.input new.input
HasStopped answering old new Write = IsCutOff answering old new

-- Memory was refused, or reading failed, and nothing was written; or writing failed.
abbrev pub HasFailed : {S W : Type 0} → Answering → StreamsValue S W → StreamsValue S W → RunFault → Type 0
HasFailed answering old new Memory = new.output ≡ old.output
HasFailed answering old new Read = (new.output ≡ old.output) × IsUnread answering old.input new.input
HasFailed answering old new Write = IsCutOff answering old new
