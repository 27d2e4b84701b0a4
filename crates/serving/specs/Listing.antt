-- What an audit of a bundle lists.
use Rattle.std.specs.Prelude.{[], if◌then◌else◌}
use Rattle.gtid_set.specs.declared.fault.SetFault.{SetFault}
use Rattle.audit.specs.Others.{Faults, faults_of, IsListFault}
use Rattle.txn_journal.specs.BundleStates.{BundleValue}
use Rattle.txn_journal.specs.Assumptions.{lacks_rows}
use Rattle.serving.specs.declared.order.Order.TheVariants.{BySource}
use Rattle.serving.specs.Verdicts.{world_over, keys_over}

-- the verdict of the audit, and what else there is
abbrev pub faults_over : BundleValue → Faults
faults_over b = faults_of (world_over b) b.journals

-- without what application finds, where the opening rows aren't known
abbrev pub faults_known : BundleValue → Faults
faults_known b = if lacks_rows b.assumptions then record (faults_over b) { verdict = keys_over BySource b; does_not_apply = [] } else faults_over b

-- why it is not listed
abbrev pub IsFaultsFault : BundleValue → SetFault → Type 0
IsFaultsFault b f = IsListFault (world_over b) b.journals f
