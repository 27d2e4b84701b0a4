use Rattle.std.proofs.Common.{◌≡◌, ◌++◌}
use Rattle.std.specs.Vec.Iter.{into_iter_items}
use Rattle.rows.specs.Patch.{touches_to}
use Rattle.rows.proofs.key_map.KeyMap.touches.Given as goal

abbrev pub invariant-loop-seen : goal.invariant-loop-seen
invariant-loop-seen l = l.patch.items ++ touches_to l.self (into_iter_items l.seen-iterator) ≡ touches_to l.self l.fn.footprint.items
