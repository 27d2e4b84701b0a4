-- What is found for bytes, and what is written for it.
use Rattle.std.proofs.Common.{◌≡◌, ℕ, List, inl, inr, refl, sym, ap, subst}
use Rattle.std.specs.Prelude.{Result, Ok, Err, IfOk, IfErr}
use Rattle.gtid_set.specs.Full.{IsMemoryOr}
use Rattle.gtid_set.specs.declared.fault.SetFault.{SetFault}
use Rattle.gtid_set.specs.declared.fault.SetFault.TheVariants as sets
use Rattle.txn_journal.specs.Stream.{IsWhole}
use Rattle.txn_journal.specs.declared.fault.JournalFault.{JournalFault}
use Rattle.txn_journal.specs.declared.fault.JournalFault.TheVariants as faults
use Rattle.gtid_report.specs.Faults.{journal_fault}
use Rattle.gtid_report.specs.declared.fault.Fault.{Fault}
use Rattle.gtid_report.specs.declared.fault.Fault.TheVariants as fault
use Rattle.gtid_report.specs.declared.refusal.Refusal.{Refusal}
use Rattle.commands.specs.Printed.{Printed, Holds, HoldsOne, Finds, Settles, IsAnswerTo, GivesUp, answer_of, refused_with}
use Rattle.commands.specs.declared.answer.Answer.{Answer}
use Rattle.commands.specs.declared.edge.RunFault.{RunFault}

abbrev ok_of : {V : Type 0} → V → Result V JournalFault
ok_of v = Ok v

abbrev error_of : {V : Type 0} → JournalFault → Result V JournalFault
error_of f = Err f

read_as : {V : Type 0} (v : V) (read : Result V JournalFault) → IsWhole (ok_of v) read → ok_of v ≡ read
read_as v read (inl (fault, e)) = cc
read_as v read (inr e) = e

-- what was found for the value that was decoded is what is found for the bytes
pub found_in : {V : Type 0} (Parses : List ℕ → Result V JournalFault → Type 0) (decoded : List ℕ → Result V JournalFault) (answers : V → Printed) (MayFail : V → SetFault → Type 0) (bytes : List ℕ) (v : V) (found : Result Answer Fault)
    → Parses bytes (ok_of v) → IsWhole (ok_of v) (decoded bytes) → IfOk found (λ answer. Holds answer (answers v)) → IfErr found (GivesUp (MayFail v)) → Finds (IsAnswerTo Parses decoded answers MayFail) bytes found
found_in Parses decoded answers MayFail bytes v (Ok answer) w whole held none =
    let e = read_as v (decoded bytes) whole in
    (answers v, inl (subst (Parses bytes) e w, ap (answer_of answers) e), held)
found_in Parses decoded answers MayFail bytes v (Err (fault.Refused r)) w whole held full =
    refused r full
  where
    refused : (r : Refusal) → GivesUp (MayFail v) (fault.Refused r) → IsAnswerTo Parses decoded answers MayFail bytes (refused_with r)
    refused r (inl full) = inr (inl (inr (v, w, sym (read_as v (decoded bytes) whole), full.1), ap refused_with full.0))
    refused r (inr full) = inr (inr (inr (v, w, sym (read_as v (decoded bytes) whole), full.1), ap refused_with full.0))
found_in Parses decoded answers MayFail bytes v (Err fault.Memory) w whole held full = tt

faulty : {V : Type 0} (Parses : List ℕ → Result V JournalFault → Type 0) (decoded : List ℕ → Result V JournalFault) (answers : V → Printed) (bytes : List ℕ) (f : JournalFault)
    → Parses bytes (error_of f) → error_of f ≡ decoded bytes → Parses bytes (decoded bytes) × (answer_of answers (error_of f) ≡ answer_of answers (decoded bytes))
faulty Parses decoded answers bytes f r e = (subst (Parses bytes) e r, ap (answer_of answers) e)

-- the refusal of a set that was not made
set_in : {V : Type 0} (Parses : List ℕ → Result V JournalFault → Type 0) (decoded : List ℕ → Result V JournalFault) (answers : V → Printed) (MayFail : V → SetFault → Type 0) (bytes : List ℕ) (f : SetFault)
    → IsMemoryOr (Parses bytes (error_of (faults.Set sets.SourcesFull))) (Parses bytes (error_of (faults.Set sets.PoolFull))) f → Finds (IsAnswerTo Parses decoded answers MayFail) bytes (Err (journal_fault (faults.Set f)))
set_in Parses decoded answers MayFail bytes sets.Memory full = tt
set_in Parses decoded answers MayFail bytes sets.SourcesFull full = inr (inl (inl full, refl))
set_in Parses decoded answers MayFail bytes sets.PoolFull full = inr (inr (inl full, refl))

-- the refusal of the bytes
pub fault_in : {V : Type 0} (Parses : List ℕ → Result V JournalFault → Type 0) (decoded : List ℕ → Result V JournalFault) (answers : V → Printed) (MayFail : V → SetFault → Type 0) (bytes : List ℕ) (f : JournalFault)
    → ((f : SetFault) → Parses bytes (error_of (faults.Set f)) → IsMemoryOr (Parses bytes (error_of (faults.Set sets.SourcesFull))) (Parses bytes (error_of (faults.Set sets.PoolFull))) f) → Parses bytes (error_of f) → IsWhole (error_of f) (decoded bytes) → Finds (IsAnswerTo Parses decoded answers MayFail) bytes (Err (journal_fault f))
fault_in Parses decoded answers MayFail bytes (faults.Set f) full r whole = set_in Parses decoded answers MayFail bytes f (full f r)
fault_in Parses decoded answers MayFail bytes f full r (inl (fault, e)) = cc
fault_in Parses decoded answers MayFail bytes f full r (inr e) = inl (faulty Parses decoded answers bytes f r e)

-- what is settled holds the answer, where each refusal is one
pub settled : (answers : List ℕ → Printed → Type 0) (found : Result Answer Fault) (settled : Result Answer RunFault) (bytes : List ℕ)
    → Finds answers bytes found → IfOk settled (Settles found) → IfOk settled (HoldsOne answers bytes)
settled answers found (Err e) bytes f s = tt
settled answers (Ok x) (Ok a) bytes f s = subst (HoldsOne answers bytes) (sym s) f
settled answers (Err (fault.Refused r)) (Ok a) bytes f s = (refused_with r, f, s)
settled answers (Err fault.Memory) (Ok a) bytes f s = absurd s
