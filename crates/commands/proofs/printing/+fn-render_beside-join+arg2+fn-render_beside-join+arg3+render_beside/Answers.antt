use Rattle.std.proofs.Common.{◌++◌, sym, ◌∙◌}
use Rattle.std.proofs.lemmas.List.{take-append-drop}
use Rattle.std.proofs.lemmas.Result.{IfOk-at_ok}
use Rattle.commands.proofs.RowLines.{both_printed}
use Rattle.commands.proofs.printing.+fn-render_beside-join+arg2+fn-render_beside-join+arg3+render_beside.Goals as goal

pub returns : goal.returns
returns g t c =
    both_printed c.args.schema.now c.args.list.now c.split_at.result.0.now c.split_at.result.1.now _ _ _ _
    (sym (take-append-drop _ c.args.list.now) ∙ (λ i. sym c.split_at.ensures.front i ++ sym c.split_at.ensures.back i))
    (IfOk-at_ok _ c.in_ok-all.was c.join-first.ensures.first)
    (IfOk-at_ok _ c.in_ok-rest.was c.join-first.ensures.second)
    c.in_ok-append.ensures.ok
