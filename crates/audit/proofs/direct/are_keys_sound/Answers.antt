use Rattle.std.proofs.lemmas.Result.{IfOk-weaker}
use Rattle.audit.proofs.Gatherings.{keys_sound}
use Rattle.audit.proofs.direct.are_keys_sound.Goals as goal

pub returns : goal.returns
returns c =
    let begun = c.in_ok-begin_in_order.ensures c.if-not-branch.false in
    IfOk-weaker c.agree_apart.result _ _
    (λ own agree yes rows. keys_sound c.args.schema.now c.args.opened.now rows c.args.journals.now c.keep_rules.ensures begun.within begun.ordered (agree yes))
    c.agree_apart.ensures
