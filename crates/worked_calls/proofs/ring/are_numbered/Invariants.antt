use Rattle.std.proofs.Common.{take}
use Rattle.network.specs.Machine.{AreNumbered}
use Rattle.worked_calls.proofs.ring.are_numbered.Given as goal

abbrev pub invariant-loop-event : goal.invariant-loop-event
invariant-loop-event l = AreNumbered (take l.event-index l.events)
