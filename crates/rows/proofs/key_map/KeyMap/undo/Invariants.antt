use Rattle.std.proofs.Common.{◌≡◌, drop}
use Rattle.rows.specs.Patch.{undo_all}
use Rattle.rows.proofs.key_map.KeyMap.undo.Given as goal

abbrev pub invariant-loop-touch : goal.invariant-loop-touch
invariant-loop-touch l = undo_all (drop l.touch-index l.patch) l.self ≡ undo_all l.patch l.fn.self
