use Rattle.std.proofs.Common.{◌≡◌, ◌++◌, Some, drop}
use Rattle.std.specs.FinMap.{get}
use Rattle.std.specs.List.{filter, list_all}
use Rattle.rows.specs.Listing.{all_shown}
use Rattle.rows.specs.Patch.{same_row}
use Rattle.row_parts.specs.Listing.{kept_entries, rows_in_each}
use Rattle.row_parts.proofs.listing.list_kept.Given as goal

abbrev pub invariant-loop-key : goal.invariant-loop-key
invariant-loop-key l = all_shown l.list.items ++ filter (λ e. list_all (λ p. same_row (get p e.0) (Some e.1)) (rows_in_each l.parts)) (all_shown (drop l.key-index l.key-items)) ≡ kept_entries l.opening.rows (rows_in_each l.parts)
