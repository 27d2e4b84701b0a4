use Rattle.std.proofs.Common.{◌∙◌, ap, map}
use Rattle.std.proofs.lemmas.Result.{IfOk-weaker}
use Rattle.rows.specs.Database.{Database}
use Rattle.audit.specs.Contents.{as_pair}
use Rattle.audit.specs.OtherRefusals.{refused_from}
use Rattle.audit.proofs.Made.{pairs_of}
use Rattle.audit.proofs.sources.World.refusals_after.Goals as goal

pub returns : goal.returns
returns c =
    let entries = map as_pair c.in_order.result.now in
    let after = c.args.source in
    IfOk-weaker c.refusals_among.result _ _
    (λ found e.
    e ∙ ap (λ (d : Database). refused_from d.schema after entries d.rows) c.in_ok-rows.ensures
    ∙ ap (λ s. refused_from s after entries c.rows.result.now.rows) c.rows.ensures.schema
    ∙ ap (refused_from c.args.self.now.schema after entries) c.rows.ensures.rows
    ∙ ap (λ es. refused_from c.args.self.now.schema after es c.args.self.now.opening_rows) (pairs_of c.in_order.result.now c.args.self.now.contents c.in_order.ensures.listed))
    c.refusals_among.ensures
