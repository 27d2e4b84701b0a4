use Rattle.std.proofs.Common.{◌≡◌, ◌++◌, ◌&&◌, drop}
use Rattle.std.specs.List.{list_all}
use Rattle.audit.specs.Gaps.{last_of_keys, is_own}
use Rattle.audit.proofs.touches.Touches.last_of_keys.Given as goal

abbrev pub invariant-loop-key : goal.invariant-loop-key
invariant-loop-key l = record {
  list : l.list.items ++ last_of_keys l.gtid (drop l.key-index l.keys) l.self ≡ last_of_keys l.gtid l.keys l.self;
  own : (l.own && list_all (is_own l.gtid l.self) (drop l.key-index l.keys)) ≡ list_all (is_own l.gtid l.self) l.keys;
}
