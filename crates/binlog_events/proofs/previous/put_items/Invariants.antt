use Rattle.std.proofs.Common.{◌≡◌, None}
use Rattle.std.specs.Prelude.{option_map}
use Rattle.binlog_events.specs.Previous.{items_at, item_of, behind_others, rest_text}
use Rattle.binlog_events.proofs.previous.put_items.Given as goal

abbrev pub invariant-loop-left : goal.invariant-loop-left
invariant-loop-left l =
    behind_others l.out.items (rest_text (option_map item_of l.last) (items_at l.is_tagged l.left l.rest))
    ≡ behind_others l.fn.out.items (rest_text None (items_at l.fn.is_tagged l.fn.count l.fn.bytes))

abbrev pub decreases-loop-left : goal.decreases-loop-left
decreases-loop-left l = l.left
