use Rattle.std.proofs.Common.{◌≡◌, drop}
use Rattle.world.specs.declared.verdict.Verdict.TheVariants.{Unequal}
use Rattle.world.specs.Search.{first, when}
use Rattle.world.specs.Audit.{is_unequal}
use Rattle.audit.proofs.sources.World.unequal_among.Given as goal

abbrev pub invariant-loop-entry : goal.invariant-loop-entry
invariant-loop-entry l = first (λ e. when (is_unequal l.self e) (Unequal e.gtid)) (drop l.entry-index l.entries) ≡ first (λ e. when (is_unequal l.self e) (Unequal e.gtid)) l.entries
