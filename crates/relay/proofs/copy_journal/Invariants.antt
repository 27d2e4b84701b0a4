use Rattle.std.proofs.Common.{◌≡◌, take}
use Rattle.relay.proofs.copy_journal.Given as goal

abbrev pub invariant-loop-entry : goal.invariant-loop-entry
invariant-loop-entry l = l.copy ≡ record { previous = l.journal.previous; entries = take l.entry-index l.journal.entries }
