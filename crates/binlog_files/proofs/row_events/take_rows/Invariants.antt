use Rattle.std.proofs.Common.{◌≡◌, drop, map, Ok}
use Rattle.binlog_files.specs.Rows.{row_events}
use Rattle.binlog_files.specs.Taking.{told_to}
use Rattle.binlog_rows.specs.Reading.{row_view}
use Rattle.log_transactions.specs.States.{state}
use Rattle.binlog_files.proofs.row_events.take_rows.Given as goal

abbrev pub invariant-loop-row : goal.invariant-loop-row
invariant-loop-row l =
    told_to (state l.log) (Ok (row_events l.kind l.table (map row_view (drop l.row-index l.rows)))) ≡ told_to (state l.fn.log) (Ok (row_events l.kind l.table (map row_view l.rows)))
