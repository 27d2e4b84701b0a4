use Rattle.std.proofs.Common.{◌≡◌, drop, Ok}
use Rattle.binlog_files.specs.Taking.{told_to}
use Rattle.binlog_files.specs.Told.{varies}
use Rattle.log_transactions.specs.States.{state}
use Rattle.binlog_files.proofs.mapping.tell_varied.Given as goal

abbrev pub invariant-loop-column : goal.invariant-loop-column
invariant-loop-column l =
    told_to (state l.log) (Ok (varies l.table (drop l.column-index l.varied))) ≡ told_to (state l.fn.log) (Ok (varies l.table l.varied))
