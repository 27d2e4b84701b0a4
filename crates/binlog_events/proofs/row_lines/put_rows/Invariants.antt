use Rattle.std.proofs.Common.{◌≡◌, ◌++◌, map, drop}
use Rattle.std.specs.List.{flat_map}
use Rattle.binlog_rows.specs.Reading.{row_view}
use Rattle.binlog_events.specs.RowLines.{row_line}
use Rattle.binlog_events.proofs.row_lines.put_rows.Given as goal

abbrev pub invariant-loop-row : goal.invariant-loop-row
invariant-loop-row l =
    l.out.items ++ flat_map (row_line l.kind l.name l.read.first.items l.read.second.items) (map row_view (drop l.row-index l.rows))
    ≡ l.fn.out.items ++ flat_map (row_line l.kind l.name l.read.first.items l.read.second.items) (map row_view l.rows)
