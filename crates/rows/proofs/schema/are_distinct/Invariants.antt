use Rattle.std.proofs.Common.{◌≡◌, drop}
use Rattle.rows.specs.Tables.{are_distinct}
use Rattle.rows.proofs.schema.are_distinct.Given as goal

abbrev pub invariant-loop-i : goal.invariant-loop-i
invariant-loop-i l = are_distinct (drop l.i l.columns) ≡ are_distinct l.columns
