use Rattle.std.specs.List.{concat}
use Rattle.gtid_set.specs.Kept.{sources_at}
use Rattle.gtid_set.specs.Order.{index_of}
use Rattle.gtid_set.proofs.GuessLemmas.{searched_none, searched_some}
use Rattle.gtid_set.proofs.sources.find_by_search.Goals as goal

pub returns-clause-none : goal.returns-clause-none
returns-clause-none c =
    searched_none (sources_at c.args.sources.now (concat c.args.order.now)) c.args.id (index_of c.args.order.now c.seat_of-at.result) c.find.result c.requires.rising c.seat_of-at.ensures.place c.seat_of-at.ensures.seat c.find.ensures.none

pub returns-clause-some : goal.returns-clause-some
returns-clause-some c = searched_some (sources_at c.args.sources.now (concat c.args.order.now)) c.args.id (index_of c.args.order.now c.seat_of-at.result) c.find.result c.find.ensures.some
