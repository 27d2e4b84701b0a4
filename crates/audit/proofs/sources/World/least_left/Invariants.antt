use Rattle.std.proofs.Common.{◌≡◌, drop, map}
use Rattle.world.specs.declared.verdict.Verdict.TheVariants.{NotClosed}
use Rattle.world.specs.Search.{first, when}
use Rattle.audit.specs.Contents.{as_pair}
use Rattle.audit.specs.Gaps.{is_recorded, is_left_by, least_left_by}
use Rattle.audit.proofs.sources.World.least_left.Given as goal

abbrev pub invariant-loop-earlier : goal.invariant-loop-earlier
invariant-loop-earlier l =
    first (λ h. when (is_left_by l.self (is_recorded l.previous l.standing) l.entry h) (NotClosed l.entry.gtid h.0)) (map as_pair (drop l.earlier-index l.earlier-items))
    ≡ least_left_by l.self (is_recorded l.previous l.standing) l.entry
