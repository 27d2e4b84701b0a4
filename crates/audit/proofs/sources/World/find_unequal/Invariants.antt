use Rattle.std.proofs.Common.{◌≡◌, drop}
use Rattle.world.specs.Audit.{unequal}
use Rattle.audit.proofs.sources.World.find_unequal.Given as goal

abbrev pub invariant-loop-journal : goal.invariant-loop-journal
invariant-loop-journal l = unequal l.self (drop l.journal-index l.journals) ≡ unequal l.self l.journals
