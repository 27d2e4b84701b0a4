-- What is found for bytes with a history of it, and what is written of it.
use Rattle.std.proofs.Common.{◌≡◌, ℕ, List, [], inl, inr, refl, sym, ap, subst, ◌∙◌}
use Rattle.std.specs.Prelude.{Result, Ok, Err, IfOk, IfErr}
use Rattle.txn_journal.specs.BundleStates.{BundleValue}
use Rattle.txn_journal.specs.Stream.{IsWhole}
use Rattle.txn_journal.specs.declared.fault.JournalFault.{JournalFault}
use Rattle.txn_journal.specs.declared.fault.JournalFault.TheVariants as journals
use Rattle.gtid_report.specs.Faults.{journal_fault}
use Rattle.gtid_report.specs.declared.fault.Fault.{Fault}
use Rattle.gtid_report.specs.declared.fault.Fault.TheVariants as fault
use Rattle.world.specs.declared.verdict.Verdict.{Verdict}
use Rattle.serving.specs.Faults.{IsBundleFault}
use Rattle.serving.specs.Verdicts.{IsUnsound, keys_over}
use Rattle.serving.specs.declared.order.Order.{Order}
use Rattle.commands.specs.Printed.{Holds, Finds, GivesUp, answer_of, refused_with}
use Rattle.commands.specs.Parsing.{ParsesAsBundle, bundle_in}
use Rattle.commands.specs.Counted.{line_count, counted, counted_in, ParsesAsCounted}
use Rattle.commands.specs.Bundles.{Applies, applied_text}
use Rattle.commands.specs.declared.text.CountedBundle.{CountedBundle}
use Rattle.commands.specs.Texts.{IsTextOf}
use Rattle.commands.specs.Reports.{HoldsReport}
use Rattle.commands.specs.Applying.{Tells, TellsOf}
use Rattle.commands.specs.Telling.{FindsTold, SettlesTold}
use Rattle.commands.specs.declared.edge.RunFault.{RunFault}
use Rattle.commands.specs.declared.report.Report.{Report}
use Rattle.commands.proofs.Finding.{found_in, fault_in}

abbrev IsBundleText : List ℕ → Result BundleValue JournalFault → Type 0
IsBundleText bytes found = IsTextOf ParsesAsBundle bundle_in bytes found

abbrev bundle_of : BundleValue → Result BundleValue JournalFault
bundle_of b = Ok b

read_as : (b : BundleValue) (read : Result BundleValue JournalFault) → IsWhole (bundle_of b) read → read ≡ bundle_of b
read_as b read (inl (fault, e)) = cc
read_as b read (inr e) = sym e

-- where the audit of keys has a verdict that is not Sound, there is no history
pub no_history : (order : Order) (b : BundleValue) (v : Verdict) (notes : List ℕ) → IsUnsound order b v → v ≡ keys_over order b → notes ≡ [] → TellsOf order b notes
no_history order b v notes unsound keys none = inr (inr (λ sound. unsound.1 (keys ∙ sound)), none)

abbrev counted_of : List ℕ → BundleValue → CountedBundle
counted_of bytes b = record { bundle = b; lines = line_count bytes }

-- what a bundle results in that has this text
pub bundle_told : (order : Order) (bytes : List ℕ) (b : BundleValue) (found : Result Report Fault) → IsBundleText bytes (Ok b) → IfOk found (λ held. Holds held.answer (applied_text order (counted_of bytes b)))
    → IfOk found (λ held. TellsOf order b (held.notes.items)) → IfErr found (GivesUp (IsBundleFault b)) → FindsTold order bytes found
bundle_told order bytes b (Ok held) text holds notes none =
    let e = read_as b (bundle_in bytes) text.exact in
    let k : Ok (counted_of bytes b) ≡ counted_in bytes = ap (counted bytes) (sym e) in
    record {
      printed = applied_text order (counted_of bytes b);
      reported = record { applies = inl (subst (ParsesAsCounted bytes) k (text.parsed, refl), ap (answer_of (applied_text order)) k); told = inl (record { bundle = b; parsed = e; answer = refl; tells = notes }) };
      holds = holds;
    }
bundle_told order bytes b (Err (fault.Refused r)) text holds notes full =
    let e = read_as b (bundle_in bytes) text.exact in
    found_in ParsesAsCounted counted_in (applied_text order) (λ it. IsBundleFault it.bundle) bytes (counted_of bytes b) (Err (fault.Refused r)) (text.parsed, refl) (inr (ap (counted bytes) (sym e))) tt full
bundle_told order bytes b (Err fault.Memory) text holds notes full = tt

refused_so : (order : Order) (bytes : List ℕ) (f : Fault) → Finds (Applies order) bytes (Err f) → FindsTold order bytes (Err f)
refused_so order bytes (fault.Refused r) h = h
refused_so order bytes fault.Memory h = tt

error_counted : (bytes : List ℕ) (f : JournalFault) (read : Result BundleValue JournalFault) → (let r : Result BundleValue JournalFault = Err f in IsWhole r read) → (let r : Result CountedBundle JournalFault = Err f in IsWhole r (counted bytes read))
error_counted bytes f read (inl (fault, e)) = let k : f ≡ journals.Set fault = cc in inl (fault, ap (λ (g : JournalFault). let r : Result CountedBundle JournalFault = Err g in r) k)
error_counted bytes f read (inr e) = inr (ap (counted bytes) e)

pub error_text : (bytes : List ℕ) (f : JournalFault) → IsBundleText bytes (Err f) → (let r : Result CountedBundle JournalFault = Err f in IsTextOf ParsesAsCounted counted_in bytes r)
error_text bytes f text = record { parsed = text.parsed; exact = error_counted bytes f (bundle_in bytes) text.exact }

-- the refusal of the bytes
pub fault_told : (order : Order) (bytes : List ℕ) (f : JournalFault) → IsBundleText bytes (Err f) → FindsTold order bytes (Err (journal_fault f))
fault_told order bytes f text = refused_so order bytes (journal_fault f) (fault_in ParsesAsCounted counted_in (applied_text order) (λ it. IsBundleFault it.bundle) bytes f (λ g h. h) text.parsed (error_counted bytes f (bundle_in bytes) text.exact))

-- what is settled holds the answer with a history of it
pub told : (order : Order) (bytes : List ℕ) (found : Result Report Fault) (settled : Result Report RunFault) → FindsTold order bytes found → IfOk settled (SettlesTold found) → IfOk settled (HoldsReport (Tells order) bytes)
told order bytes found (Err e) f s = tt
told order bytes (Ok held) (Ok h) f s = subst (HoldsReport (Tells order) bytes) (sym s) f
told order bytes (Err (fault.Refused r)) (Ok h) f s = record { printed = refused_with r; reported = record { applies = f; told = inr (record { refusal = r; refused = refl; none = s.1 }) }; holds = s.0 }
told order bytes (Err fault.Memory) (Ok h) f s = absurd s
