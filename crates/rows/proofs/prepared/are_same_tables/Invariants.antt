use Rattle.std.proofs.Common.{◌≡◌, drop}
use Rattle.rows.specs.Prepared.{same_tables}
use Rattle.rows.proofs.prepared.are_same_tables.Given as goal

abbrev pub invariant-loop-change : goal.invariant-loop-change
invariant-loop-change l = same_tables l.a l.b (drop l.change-index l.changes) ≡ same_tables l.a l.b l.changes
