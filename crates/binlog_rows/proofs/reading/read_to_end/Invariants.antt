use Rattle.std.proofs.Common.{◌≡◌, ◌-◌, length, option_map}
use Rattle.binlog_rows.specs.Rows.{rows_from}
use Rattle.binlog_rows.specs.Reading.{rows_behind}
use Rattle.binlog_rows.proofs.reading.read_to_end.Given as goal

abbrev pub invariant-loop-count : goal.invariant-loop-count
invariant-loop-count l =
    option_map (rows_behind l.rows.items l.first l.second) (rows_from (length l.bytes - l.count) l.first l.second l.rest)
    ≡ option_map (rows_behind l.fn.rows.items l.first l.second) (rows_from (length l.bytes) l.first l.second l.bytes)
