use Rattle.history.proofs.Faults.{faultless_are_consistent}
use Rattle.history.proofs.histories.faultless_are_consistent.Goals as goal

pub returns : goal.returns
returns c = faultless_are_consistent
