-- What was read, and why it is not answered.
use Rattle.std.proofs.Common.{ℕ, List, inl, inr, refl}
use Rattle.std.specs.Prelude.{Result, Ok, Err, IfOk, IfErr}
use Rattle.gtid_set.specs.declared.fault.SetFault.{SetFault}
use Rattle.gtid_set.specs.declared.fault.SetFault.TheVariants.{Memory, PoolFull, SourcesFull}
use Rattle.journal.specs.Journals.{JournalValue}
use Rattle.gtid_set.specs.Sets.{Gtids}
use Rattle.auto_position.specs.Sending.{IsPlanFault}
use Rattle.txn_journal.specs.BundleStates.{BundleValue}
use Rattle.txn_journal.specs.BundleText.{WritesBundle}
use Rattle.txn_journal.specs.BundleRefused.{RefusesBundle}
use Rattle.txn_journal.specs.Spelling.{Writes}
use Rattle.txn_journal.specs.Refused.{Refuses}
use Rattle.txn_journal.specs.declared.fault.JournalFault.{JournalFault}
use Rattle.gtid_report.specs.Faults.{set_fault}
use Rattle.serving.specs.Faults.{IsBundleFault, IsVerdictFault}
use Rattle.commands.specs.Printed.{GivesUp}
use Rattle.commands.specs.Parsing.{ParsesAsBundle}
use Rattle.commands.specs.Positions.{ParsesAsJournal}

-- a bundle that was decoded is one by its grammar
pub bundle_spelled : (bytes : List ℕ) (found : Result BundleValue JournalFault) → IfOk found (λ b. WritesBundle bytes b) → IfErr found (λ f. RefusesBundle f bytes) → ParsesAsBundle bytes found
bundle_spelled bytes (Ok b) writes refused = writes
bundle_spelled bytes (Err f) writes refused = refused

pub journal_spelled : (bytes : List ℕ) (found : Result JournalValue JournalFault) → IfOk found (λ j. Writes bytes j) → IfErr found (λ f. Refuses f bytes) → ParsesAsJournal bytes found
journal_spelled bytes (Ok j) writes refused = writes
journal_spelled bytes (Err f) writes refused = refused

-- there is no answer for a fault of a set that may be
pub given_up : (f : SetFault) (may : SetFault → Type 0) → may f → GivesUp may (set_fault f)
given_up Memory may h = tt
given_up PoolFull may h = inr (refl, h)
given_up SourcesFull may h = inl (refl, h)

-- a bundle is not applied
pub unapplied : (b : BundleValue) (f : SetFault) → IsBundleFault b f → GivesUp (IsBundleFault b) (set_fault f)
unapplied b f h = given_up f (IsBundleFault b) h

-- nor audited
pub unaudited : (b : BundleValue) (f : SetFault) → IsVerdictFault b f → GivesUp (IsVerdictFault b) (set_fault f)
unaudited b f h = given_up f (IsVerdictFault b) h

-- nor does a source answer
pub unsent : (j : JournalValue) (ask : Gtids) (f : SetFault) → IsPlanFault j ask f → GivesUp (IsPlanFault j ask) (set_fault f)
unsent j ask f h = given_up f (IsPlanFault j ask) h
