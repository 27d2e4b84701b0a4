use Rattle.std.proofs.Common.{take}
use Rattle.std.specs.List.{AllByRecursion}
use Rattle.txn_journal.specs.Spelling.{HasValues}
use Rattle.txn_journal.proofs.fitting.changes_fit.Given as goal

abbrev pub invariant-loop-change : goal.invariant-loop-change
invariant-loop-change l = AllByRecursion HasValues (take l.change-index l.changes)
