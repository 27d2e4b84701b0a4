use Rattle.std.proofs.Common.{sym, ◌∙◌}
use Rattle.key_table.proofs.TableLemmas.{value_missing, value_of_place}
use Rattle.key_table.proofs.table.KeyTable.get_index_of.Goals as goal

pub returns-clause-value : goal.returns-clause-value
returns-clause-value g c = value_of_place (g.K.PartialEq.eq c.args.key.now) c.args.self.now.entries c.find.result c.find.ensures.index

pub returns-clause-absent : goal.returns-clause-absent
returns-clause-absent g c = λ none. value_missing (g.K.PartialEq.eq c.args.key.now) c.args.self.now.entries (sym c.find.ensures.index ∙ none)
