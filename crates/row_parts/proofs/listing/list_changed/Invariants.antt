use Rattle.std.proofs.Common.{◌≡◌, ◌++◌, not, Some, drop}
use Rattle.std.specs.FinMap.{get}
use Rattle.std.specs.List.{filter}
use Rattle.rows.specs.Listing.{all_shown}
use Rattle.rows.specs.Patch.{same_row}
use Rattle.row_parts.specs.Listing.{changed_entries}
use Rattle.row_parts.proofs.listing.list_changed.Given as goal

abbrev pub invariant-loop-key : goal.invariant-loop-key
invariant-loop-key l = all_shown l.list.items ++ filter (λ e. not (same_row (get l.opening.rows e.0) (Some e.1))) (all_shown (drop l.key-index l.key-items)) ≡ changed_entries l.opening.rows l.part.rows
