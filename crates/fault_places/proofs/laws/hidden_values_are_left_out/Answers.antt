use Rattle.fault_places.proofs.LineLeft.{line_left}
use Rattle.fault_places.proofs.laws.hidden_values_are_left_out.Goals as goal

pub returns : goal.returns
returns c = line_left
