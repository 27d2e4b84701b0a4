use Rattle.std.proofs.Common.{◌≡◌, ◌++◌, take}
use Rattle.collation_weights.proofs.row.push_all.Given as goal

abbrev pub invariant-loop-weight : goal.invariant-loop-weight
invariant-loop-weight l = l.out.items ≡ l.fn.out.items ++ take l.weight-index l.weights
