use Rattle.std.proofs.Common.{◌≡◌, ◌+◌, false, map, drop}
use Rattle.fault_places.specs.Twice.{count_read}
use Rattle.fault_places.proofs.twice.count_read.Given as goal

abbrev pub invariant-loop-i : goal.invariant-loop-i
invariant-loop-i l =
    l.i + count_read l.gtid l.has (map (λ x. x.now) (drop l.i l.lines)) ≡ count_read l.gtid false (map (λ x. x.now) l.lines)
