use Rattle.std.proofs.Common.{◌≡◌, true}
use Rattle.row_parts.specs.Listing.{joined_before}
use Rattle.row_parts.specs.Ranges.{RisesAlong, shown_at}
use Rattle.row_parts.proofs.ranges.put_along.Given as goal

abbrev pub invariant-loop-i : goal.invariant-loop-i
invariant-loop-i l = record {
  put : l.all.items ≡ joined_before (shown_at l.lists) l.i;
  rises : l.rising ≡ true → RisesAlong l.lists l.all.items;
}
