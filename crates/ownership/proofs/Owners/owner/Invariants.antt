use Rattle.std.proofs.Common.{◌≡◌, ◌-◌}
use Rattle.ownership.specs.Ownership.{owner}
use Rattle.ownership.proofs.OwnerLemmas.{owner_from}
use Rattle.ownership.proofs.Owners.owner.Given as goal

abbrev pub invariant-loop-seat : goal.invariant-loop-seat
invariant-loop-seat l = owner l.self l.gtid ≡ owner_from l.self l.gtid l.seat (65 - l.seat)
