use Rattle.std.proofs.Common.{◌≡◌, ◌+◌, ◌≤◌, map}
use Rattle.interval_pool.specs.Cells.{head_at}
use Rattle.interval_pool.specs.Intervals.{meet}
use Rattle.interval_pool.specs.Pools.{interval_at, rest_of, walk}
use Rattle.interval_pool.proofs.meet.meet.Given as goal

abbrev pub invariant-meet : goal.invariant-meet
invariant-meet l = record {
  same : meet (l.fn.numbers.hi + l.reach) l.joined.numbers l.joined.count (map (interval_at l.cells) (walk l.cells l.left l.at)) ≡ meet (l.fn.numbers.hi + l.reach) l.fn.numbers 0 (map (interval_at l.cells) (rest_of l.cells l.heads l.list l.fn.before));
  few : l.joined.count + l.left ≤ (head_at l.heads l.list).len;
}

abbrev pub decreases-meet : goal.decreases-meet
decreases-meet l = l.left
