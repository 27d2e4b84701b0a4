use Rattle.std.proofs.Common.{◌∙◌}
use Rattle.std.proofs.lemmas.Result.{IfOk-weaker}
use Rattle.audit.specs.Passing.{purged_at}
use Rattle.audit.proofs.Passing.{first_from_start}
use Rattle.audit.proofs.sources.World.find_purged.Goals as goal

pub returns-clause-found : goal.returns-clause-found
returns-clause-found c =
    IfOk-weaker c.first_purged.result _ _
    (λ found e. e ∙ first_from_start (purged_at c.args.self.now) c.args.journals.now)
    c.first_purged.ensures.found
