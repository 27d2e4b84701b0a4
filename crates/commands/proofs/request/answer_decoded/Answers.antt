use Rattle.commands.specs.Printed.{IsAnswerTo}
use Rattle.commands.proofs.Finding.{settled}
use Rattle.commands.proofs.request.answer_decoded.Goals as goal

pub returns-clause-ok : goal.returns-clause-ok
returns-clause-ok g c = λ bytes text.
    let answers = IsAnswerTo g.Q.Value.Text.parses g.Q.Value.Text.decoded (g.Q.Request.answers c.args.request.now) (g.Q.Request.may_fail c.args.request.now) in
    settled answers c.find.result c.settle.result bytes (c.find.ensures bytes text) c.settle.ensures.ok
