-- What is found for bytes with what explains it, and what is written of it.
use Rattle.std.proofs.Common.{◌≡◌, ℕ, List, inl, inr, refl, sym, ap, subst}
use Rattle.std.specs.Prelude.{Result, Ok, Err, IfOk, IfErr}
use Rattle.txn_journal.specs.BundleStates.{BundleValue}
use Rattle.txn_journal.specs.Stream.{IsWhole}
use Rattle.txn_journal.specs.declared.fault.JournalFault.{JournalFault}
use Rattle.gtid_report.specs.Faults.{journal_fault}
use Rattle.gtid_report.specs.declared.fault.Fault.{Fault}
use Rattle.gtid_report.specs.declared.fault.Fault.TheVariants as fault
use Rattle.serving.specs.Faults.{IsVerdictFault}
use Rattle.serving.specs.declared.order.Order.{Order}
use Rattle.commands.specs.Printed.{Holds, Finds, GivesUp, answer_of, refused_with}
use Rattle.commands.specs.Parsing.{ParsesAsBundle, bundle_in}
use Rattle.commands.specs.Bundles.{Audits, audit_answer}
use Rattle.commands.specs.Texts.{IsTextOf}
use Rattle.commands.specs.Reports.{HoldsReport}
use Rattle.commands.specs.Explaining.{Explains, ExplainsBundle, FindsExplained, SettlesExplained}
use Rattle.commands.specs.declared.edge.RunFault.{RunFault}
use Rattle.commands.specs.declared.report.Report.{Report}
use Rattle.commands.proofs.Finding.{found_in, fault_in}

abbrev IsBundleText : List ℕ → Result BundleValue JournalFault → Type 0
IsBundleText bytes found = IsTextOf ParsesAsBundle bundle_in bytes found

abbrev bundle_of : BundleValue → Result BundleValue JournalFault
bundle_of b = Ok b

read_as : (b : BundleValue) (read : Result BundleValue JournalFault) → IsWhole (bundle_of b) read → read ≡ bundle_of b
read_as b read (inl (fault, e)) = cc
read_as b read (inr e) = sym e

-- the verdict on a bundle
pub bundle_found : (order : Order) (bytes : List ℕ) (b : BundleValue) (found : Result Report Fault) → IsBundleText bytes (Ok b) → IfOk found (λ held. Holds held.answer (audit_answer order b))
    → IfOk found (λ held. ExplainsBundle order bytes b (held.notes.items)) → IfErr found (GivesUp (IsVerdictFault b)) → FindsExplained order bytes found
bundle_found order bytes b (Ok held) text holds notes none =
    let e = read_as b (bundle_in bytes) text.exact in
    record {
      printed = audit_answer order b;
      reported = record { audits = inl (subst (ParsesAsBundle bytes) (sym e) text.parsed, ap (answer_of (audit_answer order)) (sym e)); explained = inl (record { bundle = b; parsed = e; verdict = refl; explained = notes }) };
      holds = holds;
    }
bundle_found order bytes b (Err (fault.Refused r)) text holds notes full = found_in ParsesAsBundle bundle_in (audit_answer order) IsVerdictFault bytes b (Err (fault.Refused r)) text.parsed text.exact tt full
bundle_found order bytes b (Err fault.Memory) text holds notes full = tt

refused_so : (order : Order) (bytes : List ℕ) (f : Fault) → Finds (Audits order) bytes (Err f) → FindsExplained order bytes (Err f)
refused_so order bytes (fault.Refused r) h = h
refused_so order bytes fault.Memory h = tt

-- the refusal of the bytes
pub fault_found : (order : Order) (bytes : List ℕ) (f : JournalFault) → IsBundleText bytes (Err f) → FindsExplained order bytes (Err (journal_fault f))
fault_found order bytes f text = refused_so order bytes (journal_fault f) (fault_in ParsesAsBundle bundle_in (audit_answer order) IsVerdictFault bytes f (λ g h. h) text.parsed text.exact)

-- what is settled holds the answer with what explains it
pub settled : (order : Order) (bytes : List ℕ) (found : Result Report Fault) (settled : Result Report RunFault) → FindsExplained order bytes found → IfOk settled (SettlesExplained bytes found) → IfOk settled (HoldsReport (Explains order) bytes)
settled order bytes found (Err e) f s = tt
settled order bytes (Ok held) (Ok h) f s = subst (HoldsReport (Explains order) bytes) (sym s) f
settled order bytes (Err (fault.Refused r)) (Ok h) f s = record { printed = refused_with r; reported = record { audits = f; explained = inr (record { refusal = r; refused = refl; explained = s.1 }) }; holds = s.0 }
settled order bytes (Err fault.Memory) (Ok h) f s = absurd s
