use Rattle.std.proofs.Common.{ap}
use Rattle.world.specs.declared.verdict.Verdict.TheVariants.{NotClosed}
use Rattle.world.specs.Search.{first, when}
use Rattle.audit.specs.Gaps.{is_recorded, is_left_by}
use Rattle.audit.proofs.Made.{pairs_of}
use Rattle.audit.proofs.sources.World.least_left.Goals as goal

pub loop-earlier-init : goal.loop-earlier-init
loop-earlier-init c =
    ap (first (λ h. when (is_left_by c.args.self.now (is_recorded c.args.previous.now c.args.standing.now) c.args.entry.now h) (NotClosed c.args.entry.now.gtid h.0)))
    (pairs_of c.in_order-earlier-items.result.now c.args.self.now.contents c.in_order-earlier-items.ensures.listed)
