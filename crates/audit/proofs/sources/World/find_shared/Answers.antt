use Rattle.std.proofs.Common.{◌∙◌, ap, sym, map}
use Rattle.std.specs.FinMap as finmap
use Rattle.std.proofs.lemmas.Result.{IfOk-weaker}
use Rattle.world.specs.Folds.{shared_from}
use Rattle.world.proofs.Touching.{one_pass_shares}
use Rattle.audit.specs.Contents.{as_pair}
use Rattle.audit.proofs.Made.{pairs_of}
use Rattle.audit.proofs.sources.World.find_shared.Goals as goal

pub returns : goal.returns
returns c =
    IfOk-weaker c.first_shared.result _ _
    (λ found e.
    e ∙ ap (λ s. shared_from s finmap.empty (map as_pair c.in_order.result.now)) (c.schema.ensures.value ∙ c.rows.ensures.schema)
    ∙ ap (shared_from c.args.self.now.schema finmap.empty) (pairs_of c.in_order.result.now c.args.self.now.contents c.in_order.ensures.listed)
    ∙ sym (one_pass_shares c.args.self.now))
    c.first_shared.ensures
