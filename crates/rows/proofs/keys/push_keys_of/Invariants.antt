use Rattle.std.proofs.Common.{◌≡◌, ◌++◌, ◌+◌, drop}
use Rattle.rows.specs.Keys.{keys_of_row, unique_keys}
use Rattle.rows.proofs.keys.push_keys_of.Given as goal

abbrev pub invariant-loop-i : goal.invariant-loop-i
invariant-loop-i l = l.keys.items ++ unique_keys l.table.name (l.i + 1) (drop l.i l.uniques) l.row ≡ l.fn.keys.items ++ keys_of_row l.table l.row
