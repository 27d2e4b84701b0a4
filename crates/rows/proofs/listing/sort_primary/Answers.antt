use Rattle.std.proofs.Common.{rules}
use Rattle.rows.proofs.Ordered.{in_order}
use Rattle.rows.proofs.listing.sort_primary.Goals as goal

pub returns : goal.returns
returns c =
    let made = in_order c.args.carriers.now.entries c.in_ok-list.list.items c.sort_by_keys.new.list.items c.len-len.ensures.unique c.in_ok-list.ensures c.in_ok-sort_by_keys.ensures.same c.in_ok-sort_by_keys.ensures.sorted in
    search rules
