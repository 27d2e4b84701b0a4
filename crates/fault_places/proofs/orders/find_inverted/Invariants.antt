use Rattle.std.proofs.Common.{◌≡◌, drop}
use Rattle.fault_places.specs.Orders.{first_inverted}
use Rattle.fault_places.proofs.orders.find_inverted.Given as goal

abbrev pub invariant-loop-i : goal.invariant-loop-i
invariant-loop-i l = first_inverted l.opened l.journals (drop l.i l.numbers) ≡ first_inverted l.opened l.journals l.numbers
