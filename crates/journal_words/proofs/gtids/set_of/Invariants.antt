use Rattle.std.proofs.Common.{◌≡◌, take}
use Rattle.std.specs.FinSet as set
use Rattle.journal_words.specs.Gtids.{set_with}
use Rattle.journal_words.proofs.gtids.set_of.Given as goal

abbrev pub invariant-loop-span : goal.invariant-loop-span
invariant-loop-span l = l.set ≡ set_with set.empty (take l.span-index l.spans)
