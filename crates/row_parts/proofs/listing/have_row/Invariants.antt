use Rattle.std.proofs.Common.{◌≡◌, Some, drop}
use Rattle.std.specs.FinMap.{get}
use Rattle.std.specs.List.{list_all}
use Rattle.rows.specs.Patch.{same_row}
use Rattle.row_parts.specs.Listing.{rows_in_each}
use Rattle.row_parts.proofs.listing.have_row.Given as goal

abbrev pub invariant-loop-part : goal.invariant-loop-part
invariant-loop-part l = list_all (λ p. same_row (get p l.key) (Some l.row)) (rows_in_each (drop l.part-index l.parts)) ≡ list_all (λ p. same_row (get p l.key) (Some l.row)) (rows_in_each l.parts)
