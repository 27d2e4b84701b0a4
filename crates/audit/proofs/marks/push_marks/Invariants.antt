use Rattle.std.proofs.Common.{◌≡◌, ◌++◌, drop, flat_map, map}
use Rattle.rows.specs.WriteSet.{keys_of_change, write_set}
use Rattle.audit.specs.Marks.{key_mark}
use Rattle.audit.proofs.marks.push_marks.Given as goal

abbrev pub invariant-loop-change : goal.invariant-loop-change
invariant-loop-change l = l.marks.items ++ map key_mark (flat_map (keys_of_change l.schema) (drop l.change-index l.change-items)) ≡ l.fn.marks.items ++ map key_mark (write_set l.schema l.txn)
