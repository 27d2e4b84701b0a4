use Rattle.std.proofs.Common.{◌≡◌, ◌-◌, true, length, take}
use Rattle.std.specs.List.{concat}
use Rattle.gtid_set.specs.Order.{are_below}
use Rattle.gtid_set.proofs.sources.block_of.Given as goal

abbrev pub invariant-loop-at : goal.invariant-loop-at
invariant-loop-at l = are_below l.sources l.id (concat (take l.at l.order)) ≡ true

abbrev pub decreases-loop-at : goal.decreases-loop-at
decreases-loop-at l = length l.order - l.at
