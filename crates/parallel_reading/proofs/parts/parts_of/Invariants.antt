use Rattle.std.proofs.Common.{◌≡◌, ◌++◌, length, map}
use Rattle.std.specs.List.{concat}
use Rattle.parallel_reading.proofs.parts.parts_of.Given as goal

abbrev pub invariant-parts : goal.invariant-parts
invariant-parts l = l.text ≡ concat (map (λ p. p.now) l.parts.items) ++ l.left

abbrev pub decreases-parts : goal.decreases-parts
decreases-parts l = length l.left
