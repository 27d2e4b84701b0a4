use Rattle.std.proofs.Common.{◌≡◌, drop}
use Rattle.std.specs.Prelude.{nat_eq}
use Rattle.fault_places.specs.Differences.{first_difference}
use Rattle.fault_places.proofs.values.first_difference.Given as goal

abbrev pub invariant-loop-i : goal.invariant-loop-i
invariant-loop-i l = first_difference nat_eq l.i (drop l.i l.first) (drop l.i l.second) ≡ first_difference nat_eq 0 l.first l.second
