use Rattle.std.proofs.Common.{◌≡◌, drop}
use Rattle.world.specs.Equal.{change_eq}
use Rattle.fault_places.specs.Differences.{first_difference}
use Rattle.fault_places.proofs.differences.change_difference.Given as goal

abbrev pub invariant-loop-i : goal.invariant-loop-i
invariant-loop-i l = first_difference change_eq l.i (drop l.i l.first) (drop l.i l.second) ≡ first_difference change_eq 0 l.first l.second
