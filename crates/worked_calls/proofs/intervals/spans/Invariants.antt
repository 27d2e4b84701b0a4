use Rattle.std.proofs.Common.{◌≡◌, length}
use Rattle.interval_pool.specs.Values.{IsAlong}
use Rattle.worked_calls.proofs.intervals.spans.Given as goal

abbrev pub invariant-cells : goal.invariant-cells
invariant-cells l = record {
  along : IsAlong l.fn.pool l.fn.list l.found.items l.next;
  count : length l.found.items ≡ l._cell;
}
