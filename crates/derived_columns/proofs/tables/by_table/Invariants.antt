use Rattle.std.proofs.Common.{take}
use Rattle.derived_columns.specs.Tables.{AreByTable}
use Rattle.derived_columns.proofs.tables.by_table.Given as goal

abbrev pub invariant-loop-column : goal.invariant-loop-column
invariant-loop-column l = AreByTable (take l.column-index l.columns) l.tables
