use Rattle.std.proofs.Common.{take}
use Rattle.std.specs.List.{AllByRecursion}
use Rattle.txn_journal.specs.Spelling.{IsOfParts}
use Rattle.txn_journal.proofs.fitting.entries_fit.Given as goal

abbrev pub invariant-loop-entry : goal.invariant-loop-entry
invariant-loop-entry l = AllByRecursion IsOfParts (take l.entry-index l.entries)
