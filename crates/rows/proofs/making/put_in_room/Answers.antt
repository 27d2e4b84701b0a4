use Rattle.std.proofs.Common.{sym, ◌∙◌}
use Rattle.rows.proofs.Hashed.{hashed_put, get_hashed}
use Rattle.rows.proofs.making.put_in_room.Goals as goal

pub returns-clause-rows : goal.returns-clause-rows
returns-clause-rows c = hashed_put c.args.carriers.now.entries c.insert.new.self.entries c.args.key c.args.row c.in-Ok.ensures.updates.0

pub returns-clause-over : goal.returns-clause-over
returns-clause-over c = c.in-Ok.ensures.old ∙ sym (get_hashed c.args.carriers.now.entries c.args.key)
