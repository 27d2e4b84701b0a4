use Rattle.std.proofs.lemmas.List.Sorted.{IsPermutation-trans}
use Rattle.rows.proofs.listing.sort_by_keys.Goals as goal

pub returns-clause-same : goal.returns-clause-same
returns-clause-same c = IsPermutation-trans c.args.list.now.items c.sort_one_table.new.list.items c.sort_anew.new.list.items c.in_ok-sort_one_table.ensures c.sort_anew.ensures.same
