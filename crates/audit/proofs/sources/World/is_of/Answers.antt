use Rattle.std.proofs.lemmas.Result.{IfOk-weaker}
use Rattle.audit.proofs.Bringing.{whole_world}
use Rattle.audit.proofs.sources.World.is_of.Goals as goal

pub returns : goal.returns
returns c =
    IfOk-weaker c.are_all_recorded.result _ _
    (λ yes all e. whole_world c.args.self.now c.args.journals.now c.lie_beyond.ensures (c.requires c.if-not-equal.false) (all e))
    c.are_all_recorded.ensures
