use Rattle.std.proofs.Common.{◌≡◌, ◌++◌}
use Rattle.std.specs.Vec.Iter.{into_iter_items}
use Rattle.rows.specs.Patch.{seen_of_keys}
use Rattle.rows.proofs.key_map.KeyMap.footprint.Given as goal

abbrev pub invariant-loop-key : goal.invariant-loop-key
invariant-loop-key l = l.footprint.items ++ seen_of_keys l.self (into_iter_items l.key-iterator) ≡ seen_of_keys l.self l.fn.keys.items
