use Rattle.std.proofs.Common.{◌≡◌, ◌≤◌, drop}
use Rattle.binlog_rows.specs.Signs.{numbered_from}
use Rattle.binlog_rows.proofs.signs.numeric_count.Given as goal

abbrev pub invariant-loop-column : goal.invariant-loop-column
invariant-loop-column l =
    record {
      within : l.place ≤ l.column-index;
      numbered : numbered_from l.place (drop l.column-index l.columns) ≡ numbered_from 0 l.columns;
    }
