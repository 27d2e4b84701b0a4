use Rattle.std.proofs.Common.{◌≡◌, ◌*◌, ◌≤◌, length}
use Rattle.binlog_events.specs.Previous.{intervals_at, behind_others, intervals_text}
use Rattle.binlog_events.proofs.previous.put_intervals.Given as goal

abbrev pub invariant-loop-left : goal.invariant-loop-left
invariant-loop-left l =
    (behind_others l.out.items (intervals_text l.last (intervals_at l.left l.rest)) ≡ behind_others l.fn.out.items (intervals_text 0 (intervals_at l.fn.count l.fn.bytes)))
    × (16 * l.left ≤ length l.rest)

abbrev pub decreases-loop-left : goal.decreases-loop-left
decreases-loop-left l = l.left
