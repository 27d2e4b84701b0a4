use Rattle.std.proofs.Common.{ap, ◌∙◌}
use Rattle.indexmap.specs.IndexMap.{index_of}
use Rattle.key_table.proofs.TableLemmas.{index_is}
use Rattle.key_table.proofs.table.KeyTable.find.Goals as goal

pub returns-clause-index : goal.returns-clause-index
returns-clause-index g c = index_is g.K.PartialEq.eq g.met.K.Eq.laws c.self.inside.entries.items c.deref-2.result.now c.args.key.now c.find.result c.deref-2.ensures.value c.self.invariant.0.0 c.find.ensures.at c.find.ensures.absent ∙ ap (λ m. index_of g.K.PartialEq.eq m c.args.key.now) c.self.view_is
