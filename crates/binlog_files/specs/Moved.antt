-- What the code keeps of events that were taken.
use Rattle.log_transactions.specs.States.{state}
use Rattle.binlog_files.specs.Tables.{tables_in}
use Rattle.binlog_files.specs.Taking.{FilesState}
use Rattle.binlog_files.specs.declared.taking.TakenEvents.{TakenEvents}

abbrev pub files_state : TakenEvents → FilesState
files_state t = record { tables = tables_in t.tables; is_passed = t.is_passed; log = state t.log }
