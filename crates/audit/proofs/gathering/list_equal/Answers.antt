use Rattle.std.proofs.Common.{List, subst}
use Rattle.std.proofs.lemmas.Result.{IfOk-weaker}
use Rattle.rows.specs.declared.schema.Table.{Table}
use Rattle.audit.specs.Gathering.{AgreeApart}
use Rattle.audit.proofs.gathering.list_equal.Goals as goal

pub gather_list-requires-clause-begun : goal.gather_list-requires-clause-begun
gather_list-requires-clause-begun c = c.begin-state.ensures c.args.opened.now c.empty-tables.result

pub returns-clause-agree : goal.returns-clause-agree
returns-clause-agree c =
    IfOk-weaker c.gather_list.result _ _
    (λ own agree yes. subst (λ (s : List Table). AgreeApart c.args.opened.now s c.args.journals.now) c.empty-tables.ensures (agree yes))
    c.gather_list.ensures.agree
