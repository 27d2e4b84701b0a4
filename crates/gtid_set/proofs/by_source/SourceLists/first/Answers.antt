use Rattle.std.proofs.Common.{drop, sym, subst}
use Rattle.gtid_set.specs.BySource.{IsFirstSource}
use Rattle.gtid_set.specs.declared.sources.SourceList.{SourceList}
use Rattle.gtid_set.proofs.BySourceLemmas.{first_source}
use Rattle.gtid_set.proofs.by_source.SourceLists.first.Goals as goal

pub returns-clause-some : goal.returns-clause-some
returns-clause-some c =
    subst (λ (s : SourceList). IsFirstSource c.args.self.now s.id) (sym c.source_of.ensures)
    (first_source c.self.inside.pool.now c.self.inside.sources.now c.self.inside.order c.in-Some.at (drop 1 c.self.inside.order) c.args.self.now c.in-Some.ensures.cases c.self.invariant c.self.view_is)
