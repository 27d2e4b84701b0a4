use Rattle.std.proofs.Common.{◌≡◌, ◌++◌, ◌+◌, drop, map}
use Rattle.rows.specs.Keys.{keys_of_row, unique_keys}
use Rattle.audit.specs.Marks.{key_mark}
use Rattle.audit.proofs.marks.push_marks_of.Given as goal

abbrev pub invariant-loop-i : goal.invariant-loop-i
invariant-loop-i l = l.marks.items ++ map key_mark (unique_keys l.table.name (l.i + 1) (drop l.i l.uniques) l.row) ≡ l.fn.marks.items ++ map key_mark (keys_of_row l.table l.row)
