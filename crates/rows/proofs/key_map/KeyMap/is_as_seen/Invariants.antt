use Rattle.std.proofs.Common.{◌≡◌, drop}
use Rattle.rows.specs.Patch.{is_as_seen}
use Rattle.rows.proofs.key_map.KeyMap.is_as_seen.Given as goal

abbrev pub invariant-loop-touch : goal.invariant-loop-touch
invariant-loop-touch l = is_as_seen (drop l.touch-index l.patch) l.self ≡ is_as_seen l.patch l.self
