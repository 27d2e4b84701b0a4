use Rattle.std.proofs.Common.{ap, ◌∙◌}
use Rattle.indexmap.specs.IndexSet.{contains}
use Rattle.key_table.proofs.SetChanges.{some_any}
use Rattle.key_table.proofs.set.KeySet.contains.Goals as goal

pub returns : goal.returns
returns g c = c.contains_key.ensures ∙ some_any g.K.PartialEq.eq c.args.key.now c.self.inside.table.entries ∙ ap (λ s. contains g.K.PartialEq.eq s c.args.key.now) c.self.view_is
