use Rattle.std.proofs.Common.{rules, ◌≡◌, ◌≢◌, sym, subst}
use Rattle.std.specs.List.{concat}
use Rattle.gtid_set.specs.declared.sources.SourceList.{SourceList}
use Rattle.gtid_set.specs.Kept.{sources_at, source_at, IsSourceAt}
use Rattle.gtid_set.specs.Order.{index_of}
use Rattle.gtid_set.proofs.BlockLemmas.{inside_got, found_at, other_at}
use Rattle.gtid_set.proofs.sources.find.Goals as goal

pub source_of-source-requires : goal.source_of-source-requires
source_of-source-requires c = inside_got c.args.sources.now (concat c.args.order.now) (index_of c.args.order.now c.args.at) c.in-Some.place c.requires c.in-Some.ensures.some

pub returns-then-ne-clause-none : goal.returns-then-ne-clause-none
returns-then-ne-clause-none c =
    let other : (source_at c.args.sources.now c.in-Some.place).id ≢ c.args.id = search rules in
    λ _. other_at c.args.sources.now (concat c.args.order.now) (index_of c.args.order.now c.args.at) c.in-Some.place c.args.id c.in-Some.ensures.some other

pub returns-clause-some : goal.returns-clause-some
returns-clause-some c =
    let same : (source_at c.args.sources.now c.in-Some.place).id ≡ c.args.id = search rules in
    subst (λ (s : SourceList). IsSourceAt (sources_at c.args.sources.now (concat c.args.order.now)) (index_of c.args.order.now c.args.at) c.args.id s) (sym c.source_of-source.ensures)
    (found_at c.args.sources.now (concat c.args.order.now) (index_of c.args.order.now c.args.at) c.in-Some.place c.args.id c.in-Some.ensures.some same)
