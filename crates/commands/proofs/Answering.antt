-- What was read and answered is written.
use Rattle.std.proofs.Common.{◌≡◌, ℕ, List, sym, ap, subst, ◌∙◌}
use Rattle.std.specs.Prelude.{Result, Ok, Err, IfOk, IfErr, OnOk, OnErr}
use Rattle.std.specs.Io.KnownBytes.{Appends}
use Rattle.commands.specs.declared.answer.Answer.{Answer}
use Rattle.commands.specs.declared.edge.Outcome.{Outcome}
use Rattle.commands.specs.declared.edge.RunFault.{RunFault}
use Rattle.commands.specs.declared.edge.RunFault.TheVariants as faults
use Rattle.commands.specs.Edge.{Input, Output, StreamsValue, HasRead, Begins, one_more}
use Rattle.commands.specs.Printed.{Printed, HoldsOne, to_all, IsDone, IsCutOff, HasFailed}

module _ {S W : Type 0} (answers : List ℕ → Printed → Type 0) (old read new : StreamsValue S W) (bytes : List ℕ) (answer : Answer)
    (all : HasRead old.input.left read.input.left bytes) (held : HoldsOne answers bytes answer) (kept : read.output ≡ old.output) (same : new.input ≡ read.input) where
  came : HasRead old.input.left new.input.left bytes
  came = subst (λ (i : Input S). HasRead old.input.left i.left bytes) (sym same) all

  pub done_written : (result : Result Outcome RunFault) → OnOk result (Appends read.output.written new.output.written answer.text) → IfOk result (λ outcome. outcome ≡ answer.outcome) → IfOk result (IsDone (to_all answers) old new)
  done_written (Ok outcome) wrote ends = record {
    printed = held.0;
    answer = (bytes, came, held.1);
    wrote = subst (λ (o : Output W). Appends o.written new.output.written held.0.text) kept (subst (λ (t : List ℕ). Appends read.output.written new.output.written t) held.2.0 wrote);
    ends = ends ∙ held.2.1;
  }
  done_written (Err f) wrote ends = tt

  cut_off : Begins read.output.written new.output.written answer.text → new.output.failed ≡ one_more read.output.failed → IsCutOff (to_all answers) old new
  cut_off begins counted = record {
    printed = held.0;
    answer = (bytes, came, held.1);
    wrote = subst (λ (o : Output W). Begins o.written new.output.written held.0.text) kept (subst (λ (t : List ℕ). Begins read.output.written new.output.written t) held.2.0 begins);
    counted = counted ∙ ap (λ (o : Output W). one_more o.failed) kept;
  }

  pub failed_written : (result : Result Outcome RunFault) → OnErr result (Begins read.output.written new.output.written answer.text) → OnErr result (new.output.failed ≡ one_more read.output.failed) → IfErr result (λ f. f ≡ faults.Write) → IfErr result (HasFailed (to_all answers) old new)
  failed_written (Ok outcome) begins counted write = tt
  failed_written (Err f) begins counted write = subst (HasFailed (to_all answers) old new) (sym write) (cut_off begins counted)
