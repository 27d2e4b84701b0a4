use Rattle.std.proofs.Common.{◌≡◌, take}
use Rattle.rows.specs.Patch.{grow_all}
use Rattle.rows.proofs.key_map.KeyMap.grow.Given as goal

abbrev pub invariant-loop-touch : goal.invariant-loop-touch
invariant-loop-touch l = l.self ≡ grow_all (take l.touch-index l.patch) l.fn.self
