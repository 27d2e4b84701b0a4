use Rattle.std.proofs.Common.{◌≡◌, ◌<◌, ℕ, true, get_or}
use Rattle.std.specs.Option.{option_eq}
use Rattle.indexmap.specs.IndexMap.{get, keys}
use Rattle.key_table.proofs.table.KeyTablePartialEq.eq.Given as goal

abbrev pub invariant-loop-place : goal.invariant-loop-place
invariant-loop-place g l = (k : ℕ) → k < l.place → (d : g.row.K.Denot)
    → option_eq g.V.PartialEq.eq (get g.K.PartialEq.eq l.self (get_or (keys l.self) k d)) (get g.K.PartialEq.eq l.other (get_or (keys l.self) k d)) ≡ true
