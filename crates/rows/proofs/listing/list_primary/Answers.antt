use Rattle.std.proofs.Common.{rules}
use Rattle.std.specs.FinMap.{from_entries}
use Rattle.rows.specs.Order.{key_cmp}
use Rattle.rows.proofs.Primary.{rows-retained}
use Rattle.rows.proofs.listing.list_primary.Goals as goal

pub returns : goal.returns
returns c = let retained = rows-retained (from_entries {R = key_cmp} c.args.carriers.now.entries) in search rules
