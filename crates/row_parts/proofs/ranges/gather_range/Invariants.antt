use Rattle.std.proofs.Common.{◌≡◌}
use Rattle.std.specs.Prelude.{slice_get}
use Rattle.row_parts.specs.Listing.{joined_before}
use Rattle.row_parts.specs.Ranges.{cuts_in, range_in}
use Rattle.row_parts.proofs.ranges.gather_range.Given as goal

abbrev pub invariant-loop-i : goal.invariant-loop-i
invariant-loop-i l = l.all.items ≡ joined_before (range_in l.lists (λ i. cuts_in (slice_get l.cuts i)) l.place) l.i
