use Rattle.std.proofs.lemmas.Result.{IfOk-weaker}
use Rattle.network.proofs.Merging.{step_merges}
use Rattle.network.proofs.Equalling.{step_is_exact}
use Rattle.network.proofs.runs.step.Goals as goal

pub returns-clause-merged : goal.returns-clause-merged
returns-clause-merged c =
    IfOk-weaker c.step.result _ _ (λ r made. step_merges c.args.network.now c.args.event.now r c.step.new.self made) c.step.ensures.ok

pub returns-clause-exact : goal.returns-clause-exact
returns-clause-exact c =
    IfOk-weaker c.step.result _ _ (λ r made. step_is_exact c.args.network.now c.args.event.now r c.step.new.self made) c.step.ensures.ok
