use Rattle.std.proofs.Common.{◌≡◌, ◌≤◌, ◌<◌, ◌+◌, Some, ◌++◌, length}
use Rattle.std.specs.Prelude.{vec_len, vec_capacity}
use Rattle.interval_pool.specs.Links.{most_cells}
use Rattle.interval_pool.specs.Changes.{run}
use Rattle.interval_pool.proofs.store.push_cells.Given as goal

abbrev pub invariant-push : goal.invariant-push
invariant-push l = record {
  items : l.cells.items ++ run l.list (length l.cells.items) l.rest ≡ l.initial.cells.items ++ run l.list (length l.initial.cells.items) l.fn.intervals;
  behind : 0 < length l.rest → l.behind ≡ Some (length l.cells.items + 1);
  small : length l.cells.items + length l.rest ≤ most_cells;
  room : vec_len l.cells + length l.rest ≤ vec_capacity l.cells;
  capacity : vec_capacity l.cells ≡ vec_capacity l.initial.cells;
}

abbrev pub decreases-push : goal.decreases-push
decreases-push l = length l.rest
