use Rattle.std.proofs.Common.{Ok, Err, sym, ◌∙◌}
use Rattle.rows.proofs.Kept.{kept_alone, on_ok}
use Rattle.rows.proofs.key_map.KeyMap.update_image.Goals as goal

pub returns-then-keeps_keys-clause-ok : goal.returns-then-keeps_keys-clause-ok
returns-then-keeps_keys-clause-ok c =
    on_ok c.replace_image.result c.replace_image.ensures.ok
    (kept_alone c.args.schema.now c.args.table.now c.args.before.now c.args.after.now c.args.self.now c.args.alone.now (Ok c.replace_image.new.self) c.requires (sym c.keeps_keys.ensures ∙ c.if-keeps_keys.true))

pub returns-then-keeps_keys-clause-refused : goal.returns-then-keeps_keys-clause-refused
returns-then-keeps_keys-clause-refused c = λ fault e.
    kept_alone c.args.schema.now c.args.table.now c.args.before.now c.args.after.now c.args.self.now c.args.alone.now (Err fault) c.requires (sym c.keeps_keys.ensures ∙ c.if-keeps_keys.true)
    (c.replace_image.ensures.refused fault e)
