use Rattle.std.proofs.Common.{take}
use Rattle.world.specs.Meaning.{AreJournals}
use Rattle.serving.proofs.outcome.keep_rules.Given as goal

abbrev pub invariant-loop-journal : goal.invariant-loop-journal
invariant-loop-journal l = AreJournals (take l.journal-index l.journals)
