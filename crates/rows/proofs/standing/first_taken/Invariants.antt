use Rattle.std.proofs.Common.{◌≡◌, drop}
use Rattle.std.specs.FinMap as map
use Rattle.rows.specs.Apply.{first_taken}
use Rattle.rows.proofs.standing.first_taken.Given as goal

abbrev pub invariant-loop-key : goal.invariant-loop-key
invariant-loop-key l = first_taken (drop l.key-index l.keys) (map.from_entries l.carriers.entries) ≡ first_taken l.keys (map.from_entries l.carriers.entries)
