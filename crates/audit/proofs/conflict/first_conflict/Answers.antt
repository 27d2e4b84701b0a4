use Rattle.std.proofs.Common.{◌∙◌}
use Rattle.std.proofs.lemmas.Result.{IfOk-weaker}
use Rattle.audit.proofs.PassingInOrder.{conflict_is}
use Rattle.audit.proofs.conflict.first_conflict.Goals as goal

pub returns : goal.returns
returns c =
    IfOk-weaker c.first_out_of_turn.result _ _
    (λ found is. conflict_is c.args.world.now c.args.journals.now c.schema.result.now c.opening_set.result.now found c.requires.journals c.requires.equal (c.schema.ensures.value ∙ c.rows.ensures.schema) c.opening_set.ensures is)
    c.first_out_of_turn.ensures
