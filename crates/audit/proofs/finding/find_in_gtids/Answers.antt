use Rattle.std.proofs.Common.{◌∙◌, sym}
use Rattle.audit.proofs.Rising.{none_in_gtids}
use Rattle.audit.proofs.finding.find_in_gtids.Goals as goal

pub returns-then-ordered-clause-found : goal.returns-then-ordered-clause-found
returns-then-ordered-clause-found c =
    none_in_gtids c.args.world.now c.args.journals.now (c.requires c.if-ordered.true) (sym c.find_unequal.ensures ∙ c.in_default.is) (sym c.in_ok-verdict.ensures.found ∙ c.in_default-2.is)
