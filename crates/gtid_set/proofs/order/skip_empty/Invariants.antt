use Rattle.std.proofs.Common.{◌≡◌, ◌++◌, length}
use Rattle.std.specs.List.{concat}
use Rattle.gtid_set.proofs.order.skip_empty.Given as goal

abbrev pub invariant-loop-block : goal.invariant-loop-block
invariant-loop-block l = l.here ++ concat l.rest ≡ l.places ++ concat l.fn.behind

abbrev pub decreases-loop-block : goal.decreases-loop-block
decreases-loop-block l = length l.rest
