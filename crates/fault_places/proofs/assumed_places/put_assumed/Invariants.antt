use Rattle.std.proofs.Common.{◌≡◌, ◌+◌, ◌++◌, map, drop}
use Rattle.fault_places.specs.AssumedPlaces.{assumed_from, assumed_places}
use Rattle.fault_places.proofs.assumed_places.put_assumed.Given as goal

abbrev pub invariant-loop-i : goal.invariant-loop-i
invariant-loop-i l =
    l.out.items ++ assumed_from l.implied (l.i + 1) (map (λ x. x.now) (drop l.i l.lines)) ≡ l.fn.out.items ++ assumed_places l.is_implied (map (λ x. x.now) l.lines)
