use Rattle.std.proofs.Common.{◌≡◌, take}
use Rattle.rows.proofs.schema.renewed_tables.Given as goal

abbrev pub invariant-loop-table : goal.invariant-loop-table
invariant-loop-table l = l.list.items ≡ take l.table-index l.tables
