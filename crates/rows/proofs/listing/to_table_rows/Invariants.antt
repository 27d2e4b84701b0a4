use Rattle.std.proofs.Common.{◌≡◌, ◌++◌, drop}
use Rattle.rows.specs.Listing.{all_shown, rows_of}
use Rattle.rows.proofs.listing.to_table_rows.Given as goal

abbrev pub invariant-loop-key : goal.invariant-loop-key
invariant-loop-key l = l.rows.items ++ rows_of (all_shown (drop l.key-index l.list)) ≡ rows_of (all_shown l.list)
