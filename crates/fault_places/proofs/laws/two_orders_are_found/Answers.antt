use Rattle.fault_places.proofs.Finding.{two_orders_are_found}
use Rattle.fault_places.proofs.laws.two_orders_are_found.Goals as goal

pub returns : goal.returns
returns c = two_orders_are_found
