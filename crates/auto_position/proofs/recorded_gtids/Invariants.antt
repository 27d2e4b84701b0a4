use Rattle.std.proofs.Common.{◌≡◌, map, take}
use Rattle.std.specs.FinSet as set
use Rattle.gtid_set.specs.Sets.{gtid}
use Rattle.auto_position.proofs.OneSource.{count_and}
use Rattle.auto_position.proofs.recorded_gtids.Given as goal

abbrev pub invariant-numbers : goal.invariant-numbers
invariant-numbers l = record {
  is : l.recorded ≡ set.from_list (map (gtid l.source) (take l.number-index l.number-items));
  one : count_and l.recorded l.source ≡ 1;
}
