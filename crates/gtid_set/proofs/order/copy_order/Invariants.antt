use Rattle.std.proofs.Common.{◌≡◌, ◌++◌, length}
use Rattle.std.specs.List.{concat}
use Rattle.gtid_set.proofs.order.copy_order.Given as goal

abbrev pub invariant-loop-block : goal.invariant-loop-block
invariant-loop-block l = l.places.items ++ concat l.rest ≡ concat l.fn.order

abbrev pub decreases-loop-block : goal.decreases-loop-block
decreases-loop-block l = length l.rest
