use Rattle.txn_journal.proofs.SpansWithin.{AreThere}
use Rattle.txn_journal.proofs.statements.has_numbers.Given as goal

abbrev pub invariant-loop-number : goal.invariant-loop-number
invariant-loop-number l = AreThere l.known l.span l.number
