use Rattle.std.proofs.Common.{◌∙◌}
use Rattle.std.proofs.lemmas.Result.{IfOk-weaker}
use Rattle.gtid_set.proofs.RunLemmas.{runs_held}
use Rattle.gtid_set.proofs.GtidSet.spans.Goals as goal

pub returns-clause-runs : goal.returns-clause-runs
returns-clause-runs c =
    IfOk-weaker c.collect_spans.result _ _ (λ v e. e ∙ c.cursor.ensures ∙ runs_held c.self.inside.spans c.args.self.now c.self.invariant.merged c.self.view_is) c.collect_spans.ensures
