-- The result of a bundle's journals when workers apply them.
use Rattle.std.specs.Prelude.{◌≡◌, ◌⊎◌, ℕ, ◌+◌, true, List, [], ◌∷◌, ◌++◌, Ok}
use Rattle.txn_journal.specs.BundleStates.{BundleValue}
use Rattle.txn_journal.specs.Assumptions.{lacks_rows}
use Rattle.replica_core.specs.Draining.{AreStoppedOrDone}
use Rattle.replica_lines.specs.Histories.{history_line}
use Rattle.shared_replica.specs.declared.step.Step.{Step}
use Rattle.shared_replica.specs.History.{IsReplay}
use Rattle.shared_replica.specs.Closing.{ClosedValue}
use Rattle.applier.specs.Draining.{AllApply}
use Rattle.gtid_report.specs.declared.refusal.Refusal.{Refusal}
use Rattle.world.specs.declared.verdict.Verdict.TheVariants.{Sound}
use Rattle.serving.specs.declared.order.Order.{Order}
use Rattle.serving.specs.Serving.{IsReady}
use Rattle.serving.specs.Verdicts.{HasMerged, IsConcluded, keys_over}
use Rattle.commands.specs.declared.parallel.Worked.{Worked}
use Rattle.commands.specs.Printed.{Printed, with_line_feed, refused_with}
use Rattle.commands.specs.Parsing.{bundle_in}
use Rattle.commands.specs.Counted.{line_count}
use Rattle.commands.specs.Bundles.{Applies, applied_text}

-- ---- a history

-- the audit reports Sound, and all journals together are executed on the replica that a history leaves
abbrev pub HasMergedIn : Order → BundleValue → ClosedValue → Type 0
HasMergedIn order b book = HasMerged order b book.now

-- What seats did to the replica of a bundle whose keys are sound, once it had received all: they took, committed and rolled back, and each
-- reply is the machine's. At the end each channel is stopped or done.
pub record IsHistory (order : Order) (b : BundleValue) (book : ClosedValue) : Type 0 where
  pub ready : IsReady order b book.opening
  pub work : AllApply book.steps
  pub legal : IsReplay book.opening book.steps book.now
  pub ends : AreStoppedOrDone book.now.state

-- such a history, and what the replica results in that it leaves
pub record IsWorked (order : Order) (b : BundleValue) (worked : Worked) : Type 0 where
  pub history : IsHistory order b worked.book
  pub concluded : IsConcluded order b worked.book.now worked.verdict

-- ---- its lines

-- the lines of steps, the first of which has this place
abbrev pub lines_from : ℕ → List Step → List ℕ
lines_from place [] = []
lines_from place (s ∷ steps) = with_line_feed (history_line place s.event s.reply) ++ lines_from (place + 1) steps

-- these are the lines of a history of this bundle
abbrev pub TellsHistory : Order → BundleValue → List ℕ → Type 0
TellsHistory order b notes = (book : ClosedValue) × IsHistory order b book × (notes ≡ lines_from 0 book.steps)

-- the opening rows aren't known, or the keys are not sound, and there is no history
abbrev pub HasNoHistory : Order → BundleValue → List ℕ → Type 0
HasNoHistory order b notes = ((lacks_rows b.assumptions ≡ true) ⊎ (keys_over order b ≡ Sound → ⊥)) × (notes ≡ [])

-- the lines of a history, or none if the opening rows aren't known or the keys are not sound
abbrev pub TellsOf : Order → BundleValue → List ℕ → Type 0
TellsOf order b notes = TellsHistory order b notes ⊎ HasNoHistory order b notes

-- it is what the bundle results in that the bytes parse as, and these are the lines of a history of it
pub record IsTold (order : Order) (bytes : List ℕ) (printed : Printed) (notes : List ℕ) : Type 0 where
  pub bundle : BundleValue
  pub parsed : bundle_in bytes ≡ Ok bundle
  pub answer : printed ≡ applied_text order (record { bundle = bundle; lines = line_count bytes })
  pub tells : TellsOf order bundle notes

-- it is a refusal, which has no history
pub record IsUntold (printed : Printed) (notes : List ℕ) : Type 0 where
  pub refusal : Refusal
  pub refused : printed ≡ refused_with refusal
  pub none : notes ≡ []

-- It is the answer of applying to these bytes, and these are the lines of a history that leads to it, or none if there is none.
pub record Tells (order : Order) (bytes : List ℕ) (printed : Printed) (notes : List ℕ) : Type 0 where
  pub applies : Applies order bytes printed
  pub told : IsTold order bytes printed notes ⊎ IsUntold printed notes
