use Rattle.std.proofs.Common.{ap, ◌∙◌}
use Rattle.std.proofs.lemmas.Result.{IfOk-weaker}
use Rattle.gtid_text.specs.Canonical.{spans_text}
use Rattle.gtid_set.proofs.RunLemmas.{runs_held}
use Rattle.gtid_set.proofs.GtidSet.to_text.Goals as goal

pub returns : goal.returns
returns c =
    IfOk-weaker c.format_spans.result _ _
    (λ t e. e ∙ ap spans_text (c.cursor.ensures ∙ runs_held c.self.inside.spans c.args.self.now c.self.invariant.merged c.self.view_is)) c.format_spans.ensures
