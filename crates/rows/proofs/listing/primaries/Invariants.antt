use Rattle.std.proofs.Common.{◌≡◌, ◌++◌, drop}
use Rattle.rows.specs.Listing.{all_shown, primary_entries}
use Rattle.rows.proofs.listing.primaries.Given as goal

abbrev pub invariant-loop-key : goal.invariant-loop-key
invariant-loop-key l = all_shown l.list.items ++ primary_entries (drop l.key-index l.carriers.entries) ≡ primary_entries l.carriers.entries
