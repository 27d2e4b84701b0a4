use Rattle.std.proofs.Common.{◌≡◌, drop}
use Rattle.binlog_entries.specs.Keys.{varied_key}
use Rattle.binlog_entries.proofs.keys.varied_key.Given as goal

abbrev pub invariant-loop-table : goal.invariant-loop-table
invariant-loop-table l = varied_key (drop l.table-index l.tables) l.varied ≡ varied_key l.fn.tables l.fn.varied
