use Rattle.std.proofs.Common.{◌≡◌, drop}
use Rattle.audit.specs.Passing.{first_from, purged_at}
use Rattle.audit.proofs.sources.World.first_purged.Given as goal

abbrev pub invariant-loop-i : goal.invariant-loop-i
invariant-loop-i l = first_from (purged_at l.self) l.i (drop l.i l.journals) ≡ first_from (purged_at l.self) 0 l.journals
