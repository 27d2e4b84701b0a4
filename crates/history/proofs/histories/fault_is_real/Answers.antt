use Rattle.history.proofs.Faults.{fault_is_real}
use Rattle.history.proofs.histories.fault_is_real.Goals as goal

pub returns : goal.returns
returns c = fault_is_real
