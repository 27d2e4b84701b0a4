use Rattle.std.proofs.Common.{sym, ◌∙◌}
use Rattle.rows.specs.Steps.{rows_in}
use Rattle.rows.proofs.Kept.{kept_updated}
use Rattle.rows.proofs.in_place.update.Goals as goal

pub returns-then-keeps_keys-clause-made : goal.returns-then-keeps_keys-clause-made
returns-then-keeps_keys-clause-made c = λ made n.
    kept_updated c.args.schema.now c.args.name.now n c.args.before.now c.args.after.now (rows_in c.args.carriers.now.entries) (sym c.keeps_keys.ensures ∙ c.if-keeps_keys.true)
    ∙ c.replace.ensures.made made n
