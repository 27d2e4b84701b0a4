use Rattle.std.proofs.Common.{take}
use Rattle.replica_core.specs.Machine.{AreNumbered}
use Rattle.worked_calls.proofs.runs.are_numbered.Given as goal

abbrev pub invariant-loop-event : goal.invariant-loop-event
invariant-loop-event l = AreNumbered (take l.event-index l.events)
