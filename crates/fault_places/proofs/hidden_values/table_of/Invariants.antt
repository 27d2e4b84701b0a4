use Rattle.std.proofs.Common.{◌≡◌, drop}
use Rattle.rows.specs.Keys.{find_table}
use Rattle.fault_places.proofs.hidden_values.table_of.Given as goal

abbrev pub invariant-loop-table : goal.invariant-loop-table
invariant-loop-table l = find_table l.name (drop l.table-index l.tables) ≡ find_table l.name l.tables
