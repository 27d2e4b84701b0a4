-- What is found if the history is asked for, and what is written of it.
use Rattle.std.specs.Prelude.{◌≡◌, ℕ, List, [], Result, Ok, Err}
use Rattle.gtid_report.specs.declared.fault.Fault.{Fault}
use Rattle.gtid_report.specs.declared.fault.Fault.TheVariants as fault
use Rattle.serving.specs.declared.order.Order.{Order}
use Rattle.commands.specs.Printed.{Holds, refused_with}
use Rattle.commands.specs.Bundles.{Applies}
use Rattle.commands.specs.Reports.{FindsReport}
use Rattle.commands.specs.Applying.{Tells}
use Rattle.commands.specs.declared.report.Report.{Report}

-- the answer of applying with a history of it, or the refusal that is its answer
abbrev pub FindsTold : Order → List ℕ → Result Report Fault → Type 0
FindsTold order bytes found = FindsReport (Tells order) (Applies order) bytes found

-- an answer is taken as it is, and for a refusal there is its line and no history
abbrev pub SettlesTold : Result Report Fault → Report → Type 0
SettlesTold (Ok found) held = held ≡ found
SettlesTold (Err (fault.Refused r)) held = Holds held.answer (refused_with r) × (held.notes.items ≡ [])
SettlesTold (Err fault.Memory) held = ⊥
