use Rattle.std.proofs.Common.{◌≡◌, ◌+◌, ◌++◌, drop}
use Rattle.ownership.specs.Slots.{taken_from}
use Rattle.ownership.proofs.Owners.list.Given as goal

abbrev pub invariant-loop-slot : goal.invariant-loop-slot
invariant-loop-slot l = l.owned.items ++ taken_from (l.slot + 1) (drop l.slot l.held-items) ≡ taken_from 1 l.held-items
