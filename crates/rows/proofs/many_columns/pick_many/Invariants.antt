use Rattle.std.proofs.Common.{◌≡◌, ◌++◌, drop}
use Rattle.rows.specs.Keys.{values_in}
use Rattle.rows.proofs.many_columns.pick_many.Given as goal

abbrev pub invariant-loop-column : goal.invariant-loop-column
invariant-loop-column l = l.picked.items ++ values_in (drop l.column-index l.columns) l.row ≡ values_in l.columns l.row
