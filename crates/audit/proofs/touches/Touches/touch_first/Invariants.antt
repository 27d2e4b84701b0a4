use Rattle.std.proofs.Common.{◌≡◌}
use Rattle.std.specs.Vec.Iter.{into_iter_items}
use Rattle.world.specs.Folds.{touched_by}
use Rattle.audit.proofs.touches.Touches.touch_first.Given as goal

abbrev pub invariant-loop-key : goal.invariant-loop-key
invariant-loop-key l = touched_by l.gtid (into_iter_items l.key-iterator) l.self ≡ touched_by l.gtid l.fn.keys.items l.fn.self
