use Rattle.std.specs.Ordering.{is_lt}
use Rattle.std.specs.List.Sorted.{IsSortedWithin}
use Rattle.rows.specs.Listing.{key_shown}
use Rattle.rows.specs.Order.{key_cmp}
use Rattle.rows.proofs.listing.are_in_order.Given as goal

abbrev pub invariant-loop-i : goal.invariant-loop-i
invariant-loop-i l = IsSortedWithin (λ x y. is_lt (key_cmp (key_shown x) (key_shown y))) l.list 0 l.i
