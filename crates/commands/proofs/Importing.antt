-- What is written for a text that is imported, and for one that is refused.
use Rattle.std.proofs.Common.{◌≡◌, Bool, ℕ, List, refl, inl, inr, subst, sym}
use Rattle.std.specs.Prelude.{Result, Ok, Err, IfOk, OnOk, None}
use Rattle.gtid_set.specs.Sets.{Gtids}
use Rattle.txn_journal.specs.BundleStates.{BundleValue}
use Rattle.binlog_bundle.specs.Weighed.{ImportsLogs, IsNoImportOfLogs}
use Rattle.binlog_bundle.specs.declared.fault.BundleFault.{BundleFault}
use Rattle.binlog_bundle.specs.declared.grants.Grants.{Grants}
use Rattle.binlog_bundle.specs.Files.{files as log_files}
use Rattle.binlog_bundle.specs.Logs.{texts}
use Rattle.binlog_bundle.specs.declared.files.ChannelFiles.{ChannelFiles}
use Rattle.commands.specs.Printed.{Printed, Holds}
use Rattle.commands.specs.declared.import_fault.Refused.{Refused as Refusal}
use Rattle.commands.specs.Bundles.{text_answer}
use Rattle.txn_journal.specs.declared.lines.Version.TheVariants.{Three}
use Rattle.commands.specs.Reports.{HoldsReport}
use Rattle.commands.specs.Imports.{Imports, IsImport, IsImportRefused, IsOfFault, ImportsAll, IsFilesRefusal, ImportsWithFiles, unnamed, HasLine, bundle_refused, refusal_notes, silent_refusal}
use Rattle.commands.specs.declared.edge.RunFault.{RunFault}
use Rattle.commands.specs.declared.report.Report.{Report}

-- the answer to a text, by the bundle that it is
pub imported_by : (imports : BundleValue → List ℕ → Type 0) (reports : List ℕ → Printed → List ℕ → Type 0) (text : List ℕ) (b : BundleValue) (notes : List ℕ) (r : Result Report RunFault)
    → ((p : Printed) (n : List ℕ) → IsImport imports p n → reports text p n) → imports b notes
    → IfOk r (λ held. Holds held.answer (text_answer Three b)) → IfOk r (λ held. held.notes.items ≡ notes) → IfOk r (HoldsReport reports text)
imported_by imports reports text b notes (Ok held) is i holds e = record {
  printed = text_answer Three b;
  reported = is (text_answer Three b) held.notes.items (record { bundle = b; imported = subst (imports b) (sym e) i; answers = refl });
  holds = holds;
}
imported_by imports reports text b notes (Err f) is i holds e = tt

-- the answer to a text that is refused
pub refused_by : (none : Refusal → Type 0) (reports : List ℕ → Printed → List ℕ → Type 0) (is_explained : Bool) (text : List ℕ) (refusal : Refusal) (r : Result Report RunFault)
    → ((p : Printed) (n : List ℕ) → IsImportRefused none is_explained text p n → reports text p n) → none refusal
    → IfOk r (λ held. Holds held.answer silent_refusal) → IfOk r (λ held. held.notes.items ≡ refusal_notes is_explained text refusal) → OnOk r (HasLine refusal)
    → IfOk r (HoldsReport reports text)
refused_by none reports is_explained text refusal (Ok held) is n holds e line = record {
  printed = silent_refusal;
  reported = is silent_refusal held.notes.items (record { refusal = refusal; is = n; line = line; silent = refl; noted = e });
  holds = holds;
}
refused_by none reports is_explained text refusal (Err f) is n holds e line = tt

pub imported_so : (accepted : Gtids) (grants : Grants) (is_explained : Bool) (text : List ℕ) (b : BundleValue) (notes : List ℕ) (r : Result Report RunFault) → ImportsLogs grants (texts accepted) text b notes
    → IfOk r (λ held. Holds held.answer (text_answer Three b)) → IfOk r (λ held. held.notes.items ≡ notes) → IfOk r (HoldsReport (Imports accepted grants is_explained) text)
imported_so accepted grants is_explained text b notes r = imported_by (ImportsLogs grants (texts accepted) text) (Imports accepted grants is_explained) text b notes r (λ p n it. inl it)

pub refused_so : (accepted : Gtids) (grants : Grants) (is_explained : Bool) (text : List ℕ) (fault : BundleFault) (refusal : Refusal) (r : Result Report RunFault) → IsNoImportOfLogs grants (texts accepted) fault text
    → refusal ≡ bundle_refused fault
    → IfOk r (λ held. Holds held.answer silent_refusal) → IfOk r (λ held. held.notes.items ≡ refusal_notes is_explained text refusal) → OnOk r (HasLine refusal)
    → IfOk r (HoldsReport (Imports accepted grants is_explained) text)
refused_so accepted grants is_explained text fault refusal r none is =
    refused_by (IsOfFault (λ f. IsNoImportOfLogs grants (texts accepted) f text)) (Imports accepted grants is_explained) is_explained text refusal r (λ p n it. inr it) (fault, none, is)

-- ---- with files

pub filed_so : (accepted : Gtids) (grants : Grants) (is_explained : Bool) (logs : List ChannelFiles) (text : List ℕ) (b : BundleValue) (notes : List ℕ) (r : Result Report RunFault) → ImportsLogs grants (log_files accepted logs) text b notes
    → unnamed logs b.channels ≡ None
    → IfOk r (λ held. Holds held.answer (text_answer Three b)) → IfOk r (λ held. held.notes.items ≡ notes) → IfOk r (HoldsReport (ImportsWithFiles accepted logs grants is_explained) text)
filed_so accepted grants is_explained logs text b notes r i u = imported_by (ImportsAll accepted grants logs text) (ImportsWithFiles accepted logs grants is_explained) text b notes r (λ p n it. inl it) (i, u)

pub unnamed_so : (accepted : Gtids) (grants : Grants) (is_explained : Bool) (logs : List ChannelFiles) (text : List ℕ) (refusal : Refusal) (r : Result Report RunFault) → IsFilesRefusal accepted grants logs text refusal
    → IfOk r (λ held. Holds held.answer silent_refusal) → IfOk r (λ held. held.notes.items ≡ refusal_notes is_explained text refusal) → OnOk r (HasLine refusal)
    → IfOk r (HoldsReport (ImportsWithFiles accepted logs grants is_explained) text)
unnamed_so accepted grants is_explained logs text refusal r = refused_by (IsFilesRefusal accepted grants logs text) (ImportsWithFiles accepted logs grants is_explained) is_explained text refusal r (λ p n it. inr it)
