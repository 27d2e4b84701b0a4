use Rattle.std.proofs.Common.{◌∙◌}
use Rattle.std.proofs.lemmas.Result.{IfOk-weaker}
use Rattle.binlog_text.proofs.QuotedLaws.{seen_found, quoted_again}
use Rattle.binlog_text.proofs.quoted.unquote.Goals as goal

pub returns-clause-found : goal.returns-clause-found
returns-clause-found c = IfOk-weaker c.quoted_at.result _ _ (λ found e. seen_found (λ v. v.items) c.args.text.now found e) c.quoted_at.ensures

pub returns-clause-only : goal.returns-clause-only
returns-clause-only c = IfOk-weaker c.quoted_at.result _ _ (λ found e bytes is. e ∙ quoted_again c.args.text.now bytes is) c.quoted_at.ensures
