use Rattle.std.proofs.Common.{◌≡◌, ◌++◌}
use Rattle.collation_weights.specs.Levels.{level}
use Rattle.collation_weights.proofs.level.push_text.Given as goal

abbrev pub invariant-loop-c : goal.invariant-loop-c
invariant-loop-c l = l.out.items ≡ l.fn.out.items ++ level l.table l.yielded
