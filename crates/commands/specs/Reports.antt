-- What a command writes to standard output, its answer, and what beside it to standard error, its notes.
use Rattle.std.specs.Prelude.{◌≡◌, ◌⊎◌, ℕ, List, Option, Result, Ok, Err}
use Rattle.std.specs.Io.KnownBytes.{Appends}
use Rattle.gtid_report.specs.declared.fault.Fault.{Fault}
use Rattle.gtid_report.specs.declared.fault.Fault.TheVariants as fault
use Rattle.commands.specs.Edge.{Output, StreamsValue, output_of, Begins, one_more, IsReadFault}
use Rattle.commands.specs.Printed.{Printed, Holds, refused_with, to_all, IsDone, IsCutOff}
use Rattle.commands.specs.declared.edge.Outcome.{Outcome}
use Rattle.commands.specs.declared.edge.RunFault.{RunFault}
use Rattle.commands.specs.declared.edge.RunFault.TheVariants.{Memory, Read, Write}
use Rattle.commands.specs.declared.report.Report.{Report}

-- A command is given by a relation of the bytes that it reads, its answer, and its notes.

-- the result holds an answer to the bytes, and the notes beside it
pub record HoldsReport (reports : List ℕ → Printed → List ℕ → Type 0) (bytes : List ℕ) (held : Report) : Type 0 where
  pub printed : Printed
  pub reported : reports bytes printed (held.notes.items)
  pub holds : Holds held.answer printed

-- the result holds an answer to the bytes with its notes, or the line of this refusal is the answer; or out of memory
abbrev pub FindsReport : (List ℕ → Printed → List ℕ → Type 0) → (List ℕ → Printed → Type 0) → List ℕ → Result Report Fault → Type 0
FindsReport reports answers bytes (Ok held) = HoldsReport reports bytes held
FindsReport reports answers bytes (Err (fault.Refused r)) = answers bytes (refused_with r)
FindsReport reports answers bytes (Err fault.Memory) = Unit {0}

-- it is the answer to the bytes, beside some notes
abbrev pub IsReported : (List ℕ → Printed → List ℕ → Type 0) → List ℕ → Printed → Type 0
IsReported reports bytes printed = (notes : List ℕ) × reports bytes printed notes

-- the notes beside the answer were written after what was there, and nothing else
abbrev pub IsNoted : {E : Type 0} → (List ℕ → Printed → List ℕ → Type 0) → Output E → Output E → List ℕ → Printed → Type 0
IsNoted reports old new bytes printed = (notes : List ℕ) × reports bytes printed notes × Appends old.written new.written notes

-- a prefix of them was written, and the writer failed once more
abbrev pub IsPartlyNoted : {E : Type 0} → (List ℕ → Printed → List ℕ → Type 0) → Output E → Output E → List ℕ → Printed → Type 0
IsPartlyNoted reports old new bytes printed =
    (notes : List ℕ) × reports bytes printed notes × Begins old.written new.written notes × (new.failed ≡ one_more old.failed)

-- The answer was written to standard output, and then the notes to standard error; and nothing else.
abbrev pub HasReported : {S W E : Type 0} → (E → Option (List ℕ)) → (E → ℕ) → (List ℕ → Printed → List ℕ → Type 0) → E → E → StreamsValue S W → StreamsValue S W → Outcome → Type 0
HasReported written failed reports old new before after outcome =
    IsDone (to_all (IsNoted reports (output_of written failed old) (output_of written failed new))) before after outcome

-- the answer was written, and the notes only in part
abbrev pub HasHalfReported : {S W E : Type 0} → (List ℕ → Printed → List ℕ → Type 0) → Output E → Output E → StreamsValue S W → StreamsValue S W → Type 0
HasHalfReported reports old new before after = (outcome : Outcome) × IsDone (to_all (IsPartlyNoted reports old new)) before after outcome

-- Memory was refused, or reading failed, and nothing was written; or writing failed: of the answer, and then no notes were written, or of the notes.
abbrev pub HasNotReported : {S W E : Type 0} → (E → Option (List ℕ)) → (E → ℕ) → (List ℕ → Printed → List ℕ → Type 0) → E → E → StreamsValue S W → StreamsValue S W → RunFault → Type 0
HasNotReported written failed reports old new before after Memory = (after.output ≡ before.output) × (new ≡ old)
HasNotReported written failed reports old new before after Read = (after.output ≡ before.output) × IsReadFault before.input after.input × (new ≡ old)
HasNotReported written failed reports old new before after Write =
    (IsCutOff (to_all (IsReported reports)) before after × (new ≡ old)) ⊎ HasHalfReported reports (output_of written failed old) (output_of written failed new) before after
