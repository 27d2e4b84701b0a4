use Rattle.std.proofs.Common.{ap, sym, ◌∙◌}
use Rattle.std.specs.FinMap as map
use Rattle.logical_timestamps.proofs.Stored.{get_hashed, hashed_put}
use Rattle.logical_timestamps.proofs.writers.LastWriters.replace.Goals as goal

pub returns-clause-written : goal.returns-clause-written
returns-clause-written c =
    hashed_put c.self.inside.last.entries c.insert.new.self.entries c.args.key c.args.number c.in-Ok.ensures.updates.0
    ∙ ap (λ m. map.insert m c.args.key c.args.number) c.self.view_is

pub returns-clause-before : goal.returns-clause-before
returns-clause-before c =
    c.in-Ok.ensures.old ∙ sym (get_hashed c.self.inside.last.entries c.args.key) ∙ ap (λ m. map.get m c.args.key) c.self.view_is
