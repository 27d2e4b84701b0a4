use Rattle.std.proofs.Common.{◌≡◌, ◌≤◌, ◌++◌, drop}
use Rattle.binlog_rows.specs.Signs.{signed_from}
use Rattle.binlog_rows.proofs.signs.signed.Given as goal

abbrev pub invariant-loop-column : goal.invariant-loop-column
invariant-loop-column l =
    record {
      within : l.place ≤ l.column-index;
      signed : l.found.items ++ signed_from l.bits l.place (drop l.column-index l.columns) ≡ signed_from l.bits 0 l.columns;
    }
