use Rattle.std.proofs.Common.{sym, subst}
use Rattle.std.specs.Prelude.{Err}
use Rattle.gtid_report.specs.declared.fault.Fault.{Fault}
use Rattle.commands.specs.Printed.{Finds, IsAnswerTo}
use Rattle.commands.specs.Texts.{IsTextOf}
use Rattle.commands.proofs.Finding.{found_in, fault_in}
use Rattle.commands.proofs.request.find.Goals as goal

pub returns-in-Ok : goal.returns-in-Ok
returns-in-Ok g c = λ bytes come.
    let parses = g.Q.Value.Text.parses in
    let decoded = g.Q.Value.Text.decoded in
    let answers = g.Q.Request.answers c.args.request.now in
    let full = g.Q.Request.may_fail c.args.request.now in
    let text = subst (IsTextOf parses decoded bytes) c.in-Ok.is come in
    found_in parses decoded answers full bytes c.in-Ok.value c.answer-answer.result text.parsed text.exact c.answer-answer.ensures.comes c.answer-answer.ensures.fault

pub returns-in-Err : goal.returns-in-Err
returns-in-Err g c = λ bytes come.
    let parses = g.Q.Value.Text.parses in
    let decoded = g.Q.Value.Text.decoded in
    let answers = g.Q.Request.answers c.args.request.now in
    let full = g.Q.Request.may_fail c.args.request.now in
    let text = subst (IsTextOf parses decoded bytes) c.in-Err.is come in
    subst (λ (fault : Fault). Finds (IsAnswerTo parses decoded answers full) bytes (Err fault)) (sym c.from.ensures)
    (fault_in parses decoded answers full bytes c.in-Err.fault (g.met.Q.Value.Text.full bytes) text.parsed text.exact)
