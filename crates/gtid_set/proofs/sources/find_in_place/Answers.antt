use Rattle.std.proofs.Common.{rules, ◌≡◌, sym, subst}
use Rattle.std.specs.List.{concat}
use Rattle.gtid_set.specs.declared.sources.SourceList.{SourceList}
use Rattle.gtid_set.specs.Kept.{sources_at, source_at, IsSourceOf}
use Rattle.gtid_set.proofs.GuessLemmas.{source_there}
use Rattle.gtid_set.proofs.sources.find_in_place.Goals as goal

pub returns : goal.returns
returns c =
    let same : (source_at c.args.sources.now c.args.at).id ≡ c.args.id = search rules in
    subst (λ (s : SourceList). IsSourceOf (sources_at c.args.sources.now (concat c.args.order.now)) s c.args.id) (sym c.source_of-found.ensures)
    (source_there c.args.sources.now (concat c.args.order.now) c.args.at c.args.id c.requires.places c.requires.many c.requires.rising (search rules) same)
