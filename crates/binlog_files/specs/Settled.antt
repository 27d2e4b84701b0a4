-- The fault of an event as that of a file.
use Rattle.std.specs.Prelude.{Result, Ok, Err}
use Rattle.log_transactions.specs.declared.fault.EventFault.{EventFault}
use Rattle.log_transactions.specs.declared.fault.EventFault.TheVariants as events
use Rattle.binlog_files.specs.declared.fault.FileFault.{FileFault}
use Rattle.binlog_files.specs.declared.fault.FileFault.TheVariants as faults
use Rattle.binlog_files.specs.declared.fault.FileRefusal.TheVariants as refusals

abbrev pub settled : Result (Unit {0}) EventFault → Result (Unit {0}) FileFault
settled (Ok _) = Ok tt
settled (Err (events.Set fault)) = Err (faults.Set fault)
settled (Err (events.Refused refusal)) = Err (faults.Refused (refusals.Event refusal))
