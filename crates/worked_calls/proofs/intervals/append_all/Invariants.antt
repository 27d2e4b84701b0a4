use Rattle.std.proofs.Common.{◌<◌, ◌*◌}
use Rattle.std.specs.List.{AllByRecursion}
use Rattle.interval_pool.specs.Values.{IsList, spans}
use Rattle.worked_calls.proofs.intervals.append_all.Given as goal

abbrev pub invariant-pairs : goal.invariant-pairs
invariant-pairs l = record {
  list : IsList l.pool l.list;
  below : AllByRecursion (λ t. t.hi < 3 * l.i) (spans l.pool l.list);
}
