use Rattle.std.proofs.Common.{◌≡◌, ◌-◌, ◌++◌}
use Rattle.replica_core.specs.State.{owned}
use Rattle.replica_core.proofs.OwnedLemmas.{owned_from}
use Rattle.replica_core.proofs.machine.Core.owned.Given as goal

abbrev pub invariant-loop-seat : goal.invariant-loop-seat
invariant-loop-seat l = owned l.self.state ≡ l.owned.items ++ owned_from l.self.state l.seat (65 - l.seat)
