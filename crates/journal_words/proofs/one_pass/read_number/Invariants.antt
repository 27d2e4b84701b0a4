use Rattle.std.proofs.Common.{length}
use Rattle.journal_words.specs.WordPrefix.{IsNumberAt}
use Rattle.journal_words.proofs.one_pass.read_number.Given as goal

abbrev pub invariant-loop-digit : goal.invariant-loop-digit
invariant-loop-digit l = IsNumberAt l.text l.number l.rest

abbrev pub decreases-loop-digit : goal.decreases-loop-digit
decreases-loop-digit l = length l.rest
