use Rattle.std.proofs.Common.{◌∙◌}
use Rattle.std.proofs.lemmas.Result.{IfOk-weaker}
use Rattle.binlog_text.proofs.ValueLaws.{seen_shown, value_again}
use Rattle.binlog_text.proofs.values.read_value.Goals as goal

pub returns-clause-found : goal.returns-clause-found
returns-clause-found c = IfOk-weaker c.value_at.result _ _ (λ found e. seen_shown c.args.column c.args.text.now found e) c.value_at.ensures

pub returns-clause-only : goal.returns-clause-only
returns-clause-only c = IfOk-weaker c.value_at.result _ _ (λ found e v is. e ∙ value_again c.args.column v c.args.text.now is) c.value_at.ensures
