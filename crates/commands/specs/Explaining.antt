-- What `audit --explain` shows beside the verdict.
use Rattle.std.specs.Prelude.{◌≡◌, ◌⊎◌, ℕ, List, Option, Some, None, Result, Ok, Err}
use Rattle.gtid_set.specs.Sets.{Gtids}
use Rattle.gtid_set.specs.declared.fault.SetFault.TheVariants.{SourcesFull, PoolFull}
use Rattle.world.specs.declared.verdict.Verdict.{Verdict}
use Rattle.world.specs.declared.verdict.Verdict.TheVariants.{Missing}
use Rattle.txn_journal.specs.BundleStates.{BundleValue}
use Rattle.gtid_report.specs.declared.fault.Fault.{Fault}
use Rattle.gtid_report.specs.declared.fault.Fault.TheVariants as fault
use Rattle.gtid_report.specs.declared.refusal.Refusal.{Refusal}
use Rattle.serving.specs.declared.order.Order.{Order}
use Rattle.serving.specs.Verdicts.{audited_over}
use Rattle.serving.specs.Listing.{faults_over, IsFaultsFault}
use Rattle.fault_places.specs.Lines.{lines_of}
use Rattle.fault_places.specs.Explained.{verdict_explained, refusal_explained}
use Rattle.commands.specs.Printed.{Printed, Holds, refused_with}
use Rattle.commands.specs.Parsing.{bundle_in}
use Rattle.commands.specs.Bundles.{Audits, audit_answer}
use Rattle.commands.specs.Reports.{FindsReport}
use Rattle.commands.specs.declared.report.Report.{Report}

-- ---- what is shown

-- the set of them has too many sources or intervals
abbrev pub AreTooMany : BundleValue → Type 0
AreTooMany b = IsFaultsFault b SourcesFull ⊎ IsFaultsFault b PoolFull

-- beside a missing GTID these are missing too, or their set is too large; beside other verdicts there are none
abbrev pub AreMissingBeside : BundleValue → Verdict → Option Gtids → Type 0
AreMissingBeside b (Missing g) (Some gtids) = gtids ≡ (faults_over b).missing
AreMissingBeside b (Missing g) None = AreTooMany b
AreMissingBeside b v gtids = gtids ≡ None

-- these lines explain the verdict on a bundle that has this text
abbrev pub ExplainsBundle : Order → List ℕ → BundleValue → List ℕ → Type 0
ExplainsBundle order bytes b notes =
    (missing : Option Gtids) × AreMissingBeside b (audited_over order b) missing × (notes ≡ verdict_explained (lines_of bytes) b missing (audited_over order b))

-- it is the verdict on the bundle that the bytes parse as, and these lines explain it
pub record IsVerdictExplained (order : Order) (bytes : List ℕ) (printed : Printed) (notes : List ℕ) : Type 0 where
  pub bundle : BundleValue
  pub parsed : bundle_in bytes ≡ Ok bundle
  pub verdict : printed ≡ audit_answer order bundle
  pub explained : ExplainsBundle order bytes bundle notes

-- it is a refusal, and these lines explain it
pub record IsRefusalExplained (bytes : List ℕ) (printed : Printed) (notes : List ℕ) : Type 0 where
  pub refusal : Refusal
  pub refused : printed ≡ refused_with refusal
  pub explained : notes ≡ refusal_explained (lines_of bytes) refusal

-- It is the answer of an audit to these bytes, and these lines explain that.
pub record Explains (order : Order) (bytes : List ℕ) (printed : Printed) (notes : List ℕ) : Type 0 where
  pub audits : Audits order bytes printed
  pub explained : IsVerdictExplained order bytes printed notes ⊎ IsRefusalExplained bytes printed notes

-- ---- results

-- the answer of an audit with what explains it, or the refusal that is its answer
abbrev pub FindsExplained : Order → List ℕ → Result Report Fault → Type 0
FindsExplained order bytes found = FindsReport (Explains order) (Audits order) bytes found

-- an answer is taken as it is, and for a refusal there is its line with what explains it
abbrev pub SettlesExplained : List ℕ → Result Report Fault → Report → Type 0
SettlesExplained bytes (Ok found) held = held ≡ found
SettlesExplained bytes (Err (fault.Refused r)) held = Holds held.answer (refused_with r) × (held.notes.items ≡ refusal_explained (lines_of bytes) r)
SettlesExplained bytes (Err fault.Memory) held = ⊥
