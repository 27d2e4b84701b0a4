use Rattle.std.proofs.Common.{◌≡◌, drop, map}
use Rattle.std.specs.Str.{bytes_eq}
use Rattle.fault_places.specs.Differences.{first_difference}
use Rattle.fault_places.proofs.differences.word_difference.Given as goal

abbrev pub invariant-loop-i : goal.invariant-loop-i
invariant-loop-i l =
    first_difference bytes_eq l.i (map (λ x. x.now) (drop l.i l.first)) (map (λ x. x.now) (drop l.i l.second))
    ≡ first_difference bytes_eq 0 (map (λ x. x.now) l.first) (map (λ x. x.now) l.second)
