use Rattle.std.proofs.Common.{take}
use Rattle.source_shares.specs.Apart.{AreAllFound}
use Rattle.source_shares.proofs.apart.are_all_found.Given as goal

abbrev pub invariant-loop-answer : goal.invariant-loop-answer
invariant-loop-answer l = AreAllFound (take l.answer-index l.found)
