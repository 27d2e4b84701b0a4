use Rattle.history.proofs.Closing.{closed_sets_are_a_lattice}
use Rattle.history.proofs.order.closed_sets_are_a_lattice.Goals as goal

pub returns : goal.returns
returns c = closed_sets_are_a_lattice
