use Rattle.std.proofs.lemmas.Result.{IfOk-weaker}
use Rattle.audit.specs.Marks.{owner_of}
use Rattle.audit.proofs.Gatherings.{gathered_agree}
use Rattle.audit.proofs.gathering.agree_apart.Goals as goal

pub returns : goal.returns
returns c =
    IfOk-weaker c.gather_all.result _ _
    (λ own gathers yes. gathered_agree c.args.opened.now c.args.schema.now c.args.journals.now c.gather_all.new.state.runs.items (owner_of c.gather_all.new.state.owners) (gathers yes (c.begin-state.ensures c.args.opened.now c.args.schema.now)))
    c.gather_all.ensures
