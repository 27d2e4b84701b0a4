use Rattle.std.proofs.Common.{◌≡◌, take}
use Rattle.std.specs.List.{flat_map}
use Rattle.std.specs.Int.{bytes_high_first}
use Rattle.collation_weights.proofs.weighing.bytes_of.Given as goal

abbrev pub invariant-loop-weight : goal.invariant-loop-weight
invariant-loop-weight l = l.bytes.items ≡ flat_map (bytes_high_first l.width) (take l.weight-index l.weights)
