use Rattle.std.proofs.Common.{ap, is_some, ◌∙◌}
use Rattle.indexmap.proofs.MapLemmas.{some_index}
use Rattle.key_table.proofs.table.KeyTable.contains_key.Goals as goal

pub returns : goal.returns
returns g c = c.is_some.ensures ∙ ap is_some c.get_index_of.ensures.index ∙ some_index (g.K.PartialEq.eq c.args.key.now) c.args.self.now.entries
