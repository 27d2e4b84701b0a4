use Rattle.std.proofs.Common.{List, ap, ◌∙◌}
use Rattle.std.proofs.lemmas.Result.{IfOk-weaker}
use Rattle.rows.specs.declared.schema.Table.{Table}
use Rattle.rows.specs.WriteSet.{touches}
use Rattle.worked_calls.proofs.patches.see.Goals as goal

-- the keys of which the rows are seen are those that the transaction touches
pub returns-clause-all : goal.returns-clause-all
returns-clause-all c =
    IfOk-weaker c.footprint.result _ _
    (λ seen sees. sees c.args.txn.now (λ key. c.in_ok-keys.ensures.members key ∙ ap (λ (schema : List Table). touches schema c.args.txn.now key) c.schema.ensures.value))
    c.footprint.ensures.all
