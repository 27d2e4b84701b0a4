use Rattle.std.proofs.Common.{◌∙◌, ap}
use Rattle.std.proofs.lemmas.Result.{IfOk-weaker}
use Rattle.audit.specs.Gaps.{first_gap}
use Rattle.audit.proofs.Closings.{closing_passes}
use Rattle.audit.proofs.sources.World.find_not_closed.Goals as goal

pub returns : goal.returns
returns c =
    IfOk-weaker c.first_gap.result _ _
    (λ found e.
    e ∙ ap (λ n. first_gap c.args.self.now n c.args.journals.now) c.requires.needs
    ∙ closing_passes c.args.self.now c.args.journals.now c.lie_beyond.ensures c.requires.equal c.requires.within)
    c.first_gap.ensures
