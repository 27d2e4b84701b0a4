use Rattle.std.proofs.Common.{◌≡◌, drop}
use Rattle.binlog_entries.specs.Keys.{varied_in_lists}
use Rattle.binlog_entries.proofs.keys.varied_in_lists.Given as goal

abbrev pub invariant-loop-columns : goal.invariant-loop-columns
invariant-loop-columns l = varied_in_lists l.table (drop l.columns-index l.lists) l.varied ≡ varied_in_lists l.fn.table l.fn.lists l.fn.varied
