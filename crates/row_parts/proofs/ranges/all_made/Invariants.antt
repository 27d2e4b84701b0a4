use Rattle.std.proofs.Common.{◌≡◌, Ok, map}
use Rattle.row_parts.proofs.ranges.all_made.Given as goal

abbrev pub invariant-loop-list : goal.invariant-loop-list
invariant-loop-list l = map Ok l.lists.items ≡ l.yielded
