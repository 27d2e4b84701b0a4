use Rattle.std.proofs.Common.{sym, ◌∙◌}
use Rattle.audit.proofs.Refusals.{shared_none}
use Rattle.audit.proofs.finding.audit.Goals as goal

pub does_not_apply-requires : goal.does_not_apply-requires
does_not_apply-requires c = shared_none c.args.world.now c.args.journals.now (sym c.in_ok-found.ensures.found ∙ c.in-None.is)
