use Rattle.std.proofs.Common.{ap, sym, ◌∙◌}
use Rattle.std.specs.FinMap as map
use Rattle.rows.proofs.Hashed.{hashed_put, get_hashed}
use Rattle.rows.proofs.key_map.KeyMap.put_at.Goals as goal

pub returns-in-Ok-clause-ok : goal.returns-in-Ok-clause-ok
returns-in-Ok-clause-ok c =
    hashed_put c.self.inside.carriers.entries c.insert.new.self.entries c.args.key c.args.row c.in-Ok.ensures.updates.0
    ∙ ap (λ m. map.insert m c.args.key c.args.row) c.self.view_is

pub returns-clause-absent : goal.returns-clause-absent
returns-clause-absent c =
    ap (λ m. map.get m c.args.key) (sym c.self.view_is) ∙ get_hashed c.self.inside.carriers.entries c.args.key ∙ c.in-Err.ensures.absent
