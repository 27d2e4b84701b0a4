use Rattle.std.proofs.Common.{◌≡◌, take}
use Rattle.indexmap.specs.IndexMap.{keys}
use Rattle.rows.specs.Tables.{table_names}
use Rattle.rows.proofs.schema.names_of.Given as goal

abbrev pub invariant-loop-table : goal.invariant-loop-table
invariant-loop-table l = keys l.names ≡ table_names (take l.table-index l.tables)
