use Rattle.std.proofs.Common.{sym, ◌∙◌}
use Rattle.rows.proofs.Hashed.{get_hashed}
use Rattle.rows.proofs.standing.carrier.Goals as goal

pub returns : goal.returns
returns c = c.get.ensures.value ∙ sym (get_hashed c.args.carriers.now.entries c.args.key.now)
