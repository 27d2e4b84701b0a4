-- Assumptions with commas between, part by part.
use Rattle.std.specs.Prelude.{ℕ, Bool, true, false, List, [], ◌∷◌, flat_map}
use Rattle.txn_journal.specs.declared.assumptions.Assumption.{Assumption}
use Rattle.txn_journal.specs.declared.assumptions.Assumption.TheVariants.{References}
use Rattle.gtid_report.specs.Assumed.{next_condition, conditions}

-- with a comma before, if they aren't the first
abbrev pub joined : Bool → List Assumption → List ℕ
joined true said = conditions said
joined false said = flat_map next_condition said

abbrev pub implied : Bool → List Assumption
implied true = References ∷ []
implied false = []
