use Rattle.std.proofs.Common.{subst}
use Rattle.std.specs.List.{AllByRecursion}
use Rattle.gtid_set.specs.Sweep.{HasSource}
use Rattle.gtid_set.proofs.RangeLemmas.{have_sources}
use Rattle.gtid_set.proofs.GtidSet.keeps_sources.Goals as goal

pub returns : goal.returns
returns c = have_sources c.self.inside.spans c.args.self.now c.self.view_is (subst (AllByRecursion HasSource) c.cursor.ensures c.sources_fit.ensures)
