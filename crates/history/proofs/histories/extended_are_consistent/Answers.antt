use Rattle.history.proofs.Faults.{extended_are_consistent}
use Rattle.history.proofs.histories.extended_are_consistent.Goals as goal

pub returns : goal.returns
returns c = extended_are_consistent
