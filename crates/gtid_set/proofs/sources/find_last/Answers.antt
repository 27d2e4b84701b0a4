use Rattle.std.proofs.Common.{rules, ◌≡◌, ◌≢◌, ◌-◌, length, sym, subst}
use Rattle.std.specs.List.{concat}
use Rattle.gtid_set.specs.declared.sources.SourceList.{SourceList}
use Rattle.gtid_set.specs.Kept.{sources_at, source_at, IsSourceAt}
use Rattle.gtid_set.proofs.BlockLemmas.{inside_got, found_at, other_at}
use Rattle.gtid_set.proofs.sources.find_last.Goals as goal

pub source_of-last-requires : goal.source_of-last-requires
source_of-last-requires c = inside_got c.args.sources.now (concat c.args.order.now) (length (concat c.args.order.now) - 1) c.in-Some.place c.requires (sym c.in-Some.ensures)

pub returns-then-ne-clause-none : goal.returns-then-ne-clause-none
returns-then-ne-clause-none c =
    let other : (source_at c.args.sources.now c.in-Some.place).id ≢ c.args.id = search rules in
    other_at c.args.sources.now (concat c.args.order.now) (length (concat c.args.order.now) - 1) c.in-Some.place c.args.id (sym c.in-Some.ensures) other

pub returns-clause-some : goal.returns-clause-some
returns-clause-some c =
    let same : (source_at c.args.sources.now c.in-Some.place).id ≡ c.args.id = search rules in
    subst (λ (s : SourceList). IsSourceAt (sources_at c.args.sources.now (concat c.args.order.now)) (length (concat c.args.order.now) - 1) c.args.id s) (sym c.source_of-last.ensures)
    (found_at c.args.sources.now (concat c.args.order.now) (length (concat c.args.order.now) - 1) c.in-Some.place c.args.id (sym c.in-Some.ensures) same)
