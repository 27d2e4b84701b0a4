use Rattle.std.proofs.Common.{◌≡◌, ◌≤◌, length, drop}
use Rattle.indexmap.specs.IndexMap.{spare}
use Rattle.rows.specs.Apply.{apply_from}
use Rattle.rows.specs.Steps.{all_undone, rows_in}
use Rattle.rows.proofs.in_place.make_in_turn.Given as goal

abbrev pub invariant-loop-change : goal.invariant-loop-change
invariant-loop-change l =
    (apply_from l.schema l.change-index (drop l.change-index l.changes) (rows_in l.carriers.entries) ≡ apply_from l.schema 0 l.changes (rows_in l.fn.carriers.entries))
    × (all_undone l.log.items l.carriers.entries ≡ all_undone l.fn.log.items l.fn.carriers.entries)
    × (length l.fn.log.items ≤ spare l.fn.carriers → length l.log.items ≤ spare l.carriers)
