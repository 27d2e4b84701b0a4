use Rattle.std.proofs.Common.{ap, ◌∙◌}
use Rattle.std.specs.FinMap as map
use Rattle.rows.proofs.Hashed.{hashed_taken}
use Rattle.rows.proofs.key_map.KeyMap.take_at.Goals as goal

pub returns : goal.returns
returns c =
    hashed_taken c.self.inside.carriers.entries c.swap_remove.new.self.entries c.args.key.now c.swap_remove.ensures.updates.0
    ∙ ap (λ m. map.remove m c.args.key.now) c.self.view_is
