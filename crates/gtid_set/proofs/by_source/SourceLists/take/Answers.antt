use Rattle.std.proofs.Common.{rules, drop, ap, sym, ◌∙◌, ◌∷◌, ◌≡◌, ◌≢◌}
use Rattle.gtid_set.specs.Kept.{source_at}
use Rattle.gtid_set.proofs.BySourceLemmas.{takes_none, takes_first}
use Rattle.gtid_set.proofs.by_source.SourceLists.take.Goals as goal

pub returns-then-ne : goal.returns-then-ne
returns-then-ne c =
    let other : (source_at c.self.inside.sources.now c.in-Some.at).id ≢ c.args.id = search rules in
    takes_none c.self.inside.pool.now c.self.inside.sources.now c.self.inside.order c.in-Some.at (drop 1 c.self.inside.order) c.args.self.now c.args.id c.empty-then-ne.result c.in-Some.ensures.cases c.self.invariant c.self.view_is c.requires
    other c.empty-then-ne.ensures

pub returns : goal.returns
returns c =
    let same : (source_at c.self.inside.sources.now c.in-Some.at).id ≡ c.args.id = search rules in
    takes_first c.self.inside.pool.now c.self.inside.sources.now c.self.inside.order c.in-Some.at c.advance.new.self c.args.self.now c.args.id c.walk.result (c.in-Some.ensures.cases ∙ ap (λ is. c.in-Some.at ∷ is) (sym c.advance.ensures)) c.self.invariant c.self.view_is
    same (search rules)
