use Rattle.std.proofs.Common.{◌≡◌, drop}
use Rattle.std.specs.Prelude.{None}
use Rattle.fault_places.specs.Next.{next_there}
use Rattle.fault_places.proofs.next_there.next_there.Given as goal

abbrev pub invariant-loop-journal : goal.invariant-loop-journal
invariant-loop-journal l = next_there l.opened l.after l.found (drop l.journal-index l.journals) ≡ next_there l.opened l.after None l.journals
