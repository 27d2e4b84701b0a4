use Rattle.std.proofs.Common.{◌∷◌, take}
use Rattle.std.specs.FinMap as map
use Rattle.rows.specs.Keys.{values_in, unique_keys}
use Rattle.rows.specs.Making.{IsPut, Extends}
use Rattle.rows.specs.Order.{key_cmp}
use Rattle.rows.proofs.placing.push_under_each.Given as goal

abbrev pub invariant-loop-i : goal.invariant-loop-i
invariant-loop-i l =
    IsPut (record { table = l.table.name; index = 0; values = values_in l.table.primary l.row } ∷ unique_keys l.table.name 1 (take l.i l.uniques) l.row) l.row (map.from_entries {R = key_cmp} l.fn.carriers.entries) (map.from_entries l.carriers.entries)
    × Extends l.fn.carriers.entries l.carriers.entries
