use Rattle.std.proofs.Common.{◌∙◌, ap, map}
use Rattle.std.specs.FinMap as finmap
use Rattle.std.proofs.lemmas.Result.{IfOk-weaker}
use Rattle.audit.specs.Contents.{as_pair}
use Rattle.audit.specs.Others.{pairs_from, key_of_verdict}
use Rattle.audit.proofs.Made.{pairs_of}
use Rattle.audit.proofs.sources.World.other_pairs.Goals as goal

pub returns : goal.returns
returns c =
    let named = key_of_verdict c.args.verdict.now in
    IfOk-weaker c.pairs_among.result _ _
    (λ found e.
    e ∙ ap (λ s. pairs_from s finmap.empty named (map as_pair c.in_order.result.now)) (c.schema.ensures.value ∙ c.rows.ensures.schema)
    ∙ ap (pairs_from c.args.self.now.schema finmap.empty named) (pairs_of c.in_order.result.now c.args.self.now.contents c.in_order.ensures.listed))
    c.pairs_among.ensures
