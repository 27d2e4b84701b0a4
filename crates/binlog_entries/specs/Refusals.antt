-- Why a line is refused whose event is.
use Rattle.log_transactions.specs.declared.fault.EventFault.{EventFault}
use Rattle.log_transactions.specs.declared.fault.EventFault.TheVariants as log_faults
use Rattle.log_transactions.specs.declared.fault.EventRefusal.{EventRefusal}
use Rattle.log_transactions.specs.declared.fault.EventRefusal.TheVariants as logs
use Rattle.binlog_entries.specs.declared.fault.EntryFault.{EntryFault}
use Rattle.binlog_entries.specs.declared.fault.EntryFault.TheVariants as faults
use Rattle.binlog_entries.specs.declared.fault.EntryRefusal.{EntryRefusal}
use Rattle.binlog_entries.specs.declared.fault.EntryRefusal.TheVariants as refusals

abbrev pub refusal_of_event : EventRefusal → EntryRefusal
refusal_of_event logs.Gtid = refusals.Gtid
refusal_of_event logs.Transaction = refusals.Transaction
refusal_of_event logs.Table = refusals.Table
refusal_of_event logs.Columns = refusals.Columns
refusal_of_event logs.Gap = refusals.Gap

abbrev pub fault_of_event : EventFault → EntryFault
fault_of_event (log_faults.Set fault) = faults.Set fault
fault_of_event (log_faults.Refused refusal) = faults.Refused (refusal_of_event refusal)
