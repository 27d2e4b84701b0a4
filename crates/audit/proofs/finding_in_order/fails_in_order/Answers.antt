use Rattle.std.proofs.Common.{◌∙◌}
use Rattle.std.proofs.lemmas.Result.{IfOk-weaker}
use Rattle.audit.proofs.PassingInOrder.{taken_is, applies_is}
use Rattle.audit.proofs.finding_in_order.fails_in_order.Goals as goal

pub first_refusal-requires : goal.first_refusal-requires
first_refusal-requires c =
    taken_is c.args.world.now c.args.journals.now c.in_order-fitting.result.now c.in_ok-rows.rows.schema c.opening_set.result.now c.in_ok-order.order.entries c.keep_rules.ensures c.requires c.in_order-fitting.ensures
    ((λ i. (c.in_ok-rows.ensures i).schema) ∙ c.rows.ensures.schema) c.opening_set.ensures c.in_ok-order.ensures

pub returns : goal.returns
returns c =
    IfOk-weaker c.first_refusal.result _ _
    (λ found is. applies_is c.args.world.now c.args.journals.now c.in_ok-rows.rows.schema c.opening_set.result.now c.in_ok-rows.rows.rows c.in_ok-order.order.entries found c.keep_rules.ensures
    ((λ i. (c.in_ok-rows.ensures i).schema) ∙ c.rows.ensures.schema) c.opening_set.ensures ((λ i. (c.in_ok-rows.ensures i).rows) ∙ c.rows.ensures.rows) c.in_ok-order.ensures is)
    c.first_refusal.ensures
