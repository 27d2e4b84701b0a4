use Rattle.network.proofs.ReadingLemmas.{AreAllMovedTo}
use Rattle.network.proofs.making.move_back.Given as goal

abbrev pub invariant-loop-i : goal.invariant-loop-i
invariant-loop-i l = AreAllMovedTo l.i l.nodes l.source l.count l.initial.readers l.readers
