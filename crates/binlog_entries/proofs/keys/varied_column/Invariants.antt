use Rattle.std.proofs.Common.{◌≡◌, drop}
use Rattle.binlog_entries.specs.Keys.{varied_column}
use Rattle.binlog_entries.proofs.keys.varied_column.Given as goal

abbrev pub invariant-loop-column : goal.invariant-loop-column
invariant-loop-column l = varied_column l.table (drop l.column-index l.columns) l.varied ≡ varied_column l.fn.table l.fn.columns l.fn.varied
