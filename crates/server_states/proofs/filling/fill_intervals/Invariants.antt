use Rattle.std.proofs.Common.{◌≡◌, drop}
use Rattle.std.specs.FinSet as set
use Rattle.server_states.specs.States.{fill_intervals}
use Rattle.server_states.proofs.filling.fill_intervals.Given as goal

abbrev pub invariant-loop-span : goal.invariant-loop-span
invariant-loop-span l = fill_intervals l.all (drop l.span-index l.spans) ≡ fill_intervals set.empty l.spans
