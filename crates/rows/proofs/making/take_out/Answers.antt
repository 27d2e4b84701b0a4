use Rattle.std.proofs.Common.{sym, ◌∙◌}
use Rattle.rows.proofs.Hashed.{hashed_taken, get_hashed}
use Rattle.rows.proofs.making.take_out.Goals as goal

pub returns-clause-rows : goal.returns-clause-rows
returns-clause-rows c = hashed_taken c.args.carriers.now.entries c.swap_remove.new.self.entries c.args.key.now c.swap_remove.ensures.updates.0

pub returns-clause-over : goal.returns-clause-over
returns-clause-over c = c.swap_remove.ensures.value ∙ sym (get_hashed c.args.carriers.now.entries c.args.key.now)
