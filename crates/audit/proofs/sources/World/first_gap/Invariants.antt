use Rattle.std.proofs.Common.{◌≡◌, drop}
use Rattle.audit.specs.Gaps.{first_gap}
use Rattle.audit.proofs.sources.World.first_gap.Given as goal

abbrev pub invariant-loop-journal : goal.invariant-loop-journal
invariant-loop-journal l = first_gap l.self l.needs (drop l.journal-index l.journals) ≡ first_gap l.self l.needs l.journals
