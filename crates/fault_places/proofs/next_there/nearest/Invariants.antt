use Rattle.std.proofs.Common.{◌≡◌, drop}
use Rattle.fault_places.specs.Next.{nearest}
use Rattle.fault_places.proofs.next_there.nearest.Given as goal

abbrev pub invariant-loop-entry : goal.invariant-loop-entry
invariant-loop-entry l = nearest l.opened l.after l.found (drop l.entry-index l.entries) ≡ nearest l.opened l.after l.fn.best l.entries
