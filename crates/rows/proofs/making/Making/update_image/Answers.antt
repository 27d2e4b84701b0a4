use Rattle.std.proofs.Common.{sym, ◌∙◌}
use Rattle.rows.proofs.Kept.{kept_updated, on_ok}
use Rattle.rows.proofs.making.Making.update_image.Goals as goal

pub returns-then-keeps_keys-clause-ok : goal.returns-then-keeps_keys-clause-ok
returns-then-keeps_keys-clause-ok c =
    on_ok c.replace_image.result c.replace_image.ensures.ok
    (λ made. kept_updated c.args.schema.now c.args.table.now c.args.n c.args.before.now c.args.after.now c.args.self.now.made (sym c.keeps_keys.ensures ∙ c.if-keeps_keys.true) ∙ made)

pub returns-then-keeps_keys-clause-refused : goal.returns-then-keeps_keys-clause-refused
returns-then-keeps_keys-clause-refused c = λ fault e.
    kept_updated c.args.schema.now c.args.table.now c.args.n c.args.before.now c.args.after.now c.args.self.now.made (sym c.keeps_keys.ensures ∙ c.if-keeps_keys.true)
    ∙ c.replace_image.ensures.refused fault e
