use Rattle.std.proofs.Common.{◌∙◌}
use Rattle.std.proofs.lemmas.Result.{IfOk-weaker}
use Rattle.audit.proofs.Rising.{only_shared}
use Rattle.audit.proofs.finding.find_shared_or_left_out.Goals as goal

pub returns-then-ordered : goal.returns-then-ordered
returns-then-ordered c =
    IfOk-weaker c.shared_unless_apart.result _ _
    (λ found e. e ∙ only_shared c.args.world.now c.args.journals.now c.lie_beyond.ensures (c.requires.ordered c.if-ordered.true))
    c.shared_unless_apart.ensures
