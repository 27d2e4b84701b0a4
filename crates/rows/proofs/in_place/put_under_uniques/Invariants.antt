use Rattle.std.proofs.Common.{◌≡◌, ◌≤◌, length, take}
use Rattle.indexmap.specs.IndexMap.{spare}
use Rattle.rows.specs.Keys.{unique_keys}
use Rattle.rows.specs.Steps.{IsPlaced, all_undone, rows_in}
use Rattle.rows.proofs.in_place.put_under_uniques.Given as goal

abbrev pub invariant-loop-i : goal.invariant-loop-i
invariant-loop-i l =
    IsPlaced l.free (unique_keys l.table.name 1 (take l.i l.uniques) l.image) l.row (rows_in l.fn.carriers.entries) (rows_in l.carriers.entries)
    × (all_undone l.log.items l.carriers.entries ≡ all_undone l.fn.log.items l.fn.carriers.entries)
    × (length l.fn.log.items ≤ spare l.fn.carriers → length l.log.items ≤ spare l.carriers)
