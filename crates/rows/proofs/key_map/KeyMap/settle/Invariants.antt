use Rattle.std.proofs.Common.{◌≡◌}
use Rattle.std.specs.Vec.Iter.{into_iter_items}
use Rattle.rows.specs.Patch.{settle_all}
use Rattle.rows.proofs.key_map.KeyMap.settle.Given as goal

abbrev pub invariant-loop-touch : goal.invariant-loop-touch
invariant-loop-touch l = settle_all (into_iter_items l.touch-iterator) l.self ≡ settle_all l.fn.patch.items l.fn.self
