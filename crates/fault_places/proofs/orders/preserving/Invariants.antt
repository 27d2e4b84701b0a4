use Rattle.std.proofs.Common.{◌≡◌, ◌++◌, drop}
use Rattle.fault_places.specs.Orders.{preserving}
use Rattle.fault_places.proofs.orders.preserving.Given as goal

abbrev pub invariant-loop-i : goal.invariant-loop-i
invariant-loop-i l = l.numbers.items ++ preserving l.i (drop l.i l.channels) ≡ preserving 0 l.channels
