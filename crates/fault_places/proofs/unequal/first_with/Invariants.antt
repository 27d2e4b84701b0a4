use Rattle.std.proofs.Common.{◌≡◌, drop}
use Rattle.std.specs.List.{position_from}
use Rattle.fault_places.specs.Differences.{has_gtid}
use Rattle.fault_places.proofs.unequal.first_with.Given as goal

abbrev pub invariant-loop-i : goal.invariant-loop-i
invariant-loop-i l = position_from (has_gtid l.gtid) l.i (drop l.i l.journals) ≡ position_from (has_gtid l.gtid) 0 l.journals
