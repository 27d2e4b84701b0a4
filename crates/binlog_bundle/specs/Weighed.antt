-- Logs whose entries have hidden values.
use Rattle.std.specs.Prelude.{◌≡◌, ◌⊎◌, ℕ, List, None, Some, Ok, Err}
use Rattle.gtid_text.specs.declared.Gtid.{Gtid}
use Rattle.gtid_set.specs.Sets.{Gtids}
use Rattle.gtid_set.specs.declared.fault.SetFault.TheVariants.{Memory}
use Rattle.journal.specs.declared.Entry.{Entry}
use Rattle.log_transactions.specs.declared.machine.LoggedTransactions.{LoggedTransactions}
use Rattle.log_transactions.specs.declared.varied.Varied.{Varied}
use Rattle.binlog_entries.specs.declared.fault.ReadFault.TheVariants as reads
use Rattle.derived_columns.specs.Entries.{derived_entries}
use Rattle.derived_columns.specs.declared.column.DerivedColumn.{DerivedColumn}
use Rattle.derived_columns.specs.declared.column.KeyPart.{KeyPart}
use Rattle.derived_columns.specs.declared.fault.DerivationFault.{DerivationFault}
use Rattle.derived_columns.specs.declared.fault.DerivationFault.TheVariants as derivations
use Rattle.derived_columns.specs.declared.fault.DerivationFault.TheVariants.{NoHiddenValue}
use Rattle.txn_journal.specs.BundleStates.{BundleValue}
use Rattle.binlog_bundle.specs.Bundles.{ImportsBundle}
use Rattle.binlog_bundle.specs.Logs.{Origin, terms_of}
use Rattle.binlog_bundle.specs.Others.{first_other}
use Rattle.binlog_bundle.specs.Refused.{IsNoBundle}
use Rattle.binlog_bundle.specs.declared.fault.BundleFault.{BundleFault}
use Rattle.binlog_bundle.specs.declared.fault.Logless.TheVariants as why
use Rattle.binlog_bundle.specs.declared.fault.SourceFault.{SourceFault}
use Rattle.binlog_bundle.specs.declared.fault.SourceFault.TheVariants as sources
use Rattle.binlog_bundle.specs.declared.grants.Grants.{Grants}

-- The channel has a log, which says of none of these columns that the server compares it otherwise. The entries are those of the log with
-- their hidden values.
pub record IsWeighed (columns : List DerivedColumn) (origin : Origin) (name text : List ℕ) (opening previous : Gtids) (entries : List Entry) (varied : List Varied) : Type 0 where
  pub logged : List Entry
  pub log : origin.is_log name text opening previous logged varied
  pub agrees : first_other columns varied ≡ None
  pub derives : derived_entries columns logged ≡ Ok entries

-- the first of the columns that it says is compared otherwise is this one of this table
pub record HasOther (columns : List DerivedColumn) (origin : Origin) (name text : List ℕ) (opening : Gtids) (table : List ℕ) (column : ℕ) : Type 0 where
  pub previous : Gtids
  pub logged : List Entry
  pub varied : List Varied
  pub log : origin.is_log name text opening previous logged varied
  pub other : KeyPart
  pub first : first_other columns varied ≡ Some other
  pub named : (table ≡ other.table) × (column ≡ other.column)

-- the first of its values that has no hidden value is in this column of this table, in the entry of this GTID
pub record HasNoHiddenValue (columns : List DerivedColumn) (origin : Origin) (name text : List ℕ) (opening : Gtids) (gtid : Gtid) (table : List ℕ) (column : ℕ) : Type 0 where
  pub previous : Gtids
  pub logged : List Entry
  pub varied : List Varied
  pub log : origin.is_log name text opening previous logged varied
  pub agrees : first_other columns varied ≡ None
  pub none : derived_entries columns logged ≡ Err (NoHiddenValue gtid table column)

-- Why there is no log with hidden values: there is none; it says that a column is compared otherwise, or has a value without a hidden one; or
-- out of memory.
abbrev pub IsUnweighed : List DerivedColumn → Origin → List ℕ → List ℕ → Gtids → SourceFault → Type 0
IsUnweighed columns origin name text opening (sources.Text fault) = origin.refuses name text opening (sources.Text fault) ⊎ (fault ≡ reads.Set Memory)
IsUnweighed columns origin name text opening (sources.Logless why.Missing) = origin.refuses name text opening (sources.Logless why.Missing)
IsUnweighed columns origin name text opening (sources.Logless why.Surplus) = origin.refuses name text opening (sources.Logless why.Surplus)
IsUnweighed columns origin name text opening (sources.Logless (why.Collation table column)) =
    origin.refuses name text opening (sources.Logless (why.Collation table column)) ⊎ HasOther columns origin name text opening table column
IsUnweighed columns origin name text opening (sources.Logless (why.Weights gtid table column)) =
    origin.refuses name text opening (sources.Logless (why.Weights gtid table column))
    ⊎ HasNoHiddenValue columns origin name text opening gtid table column
IsUnweighed columns origin name text opening (sources.File fault) = origin.refuses name text opening (sources.File fault)

-- The same logs, with hidden values.
abbrev pub weighed : List DerivedColumn → Origin → Origin
weighed columns origin = record {
  columns = columns;
  accepted = origin.accepted;
  is_log = (λ name text opening previous entries varied. IsWeighed columns origin name text opening previous entries varied);
  is_unchecked = origin.is_unchecked;
  refuses = (λ name text opening fault. IsUnweighed columns origin name text opening fault);
}

-- ---- what a log says

-- the log with hidden values
pub record IsWeighedLog (columns : List DerivedColumn) (log weighed : LoggedTransactions) : Type 0 where
  pub agrees : first_other columns log.varied.items ≡ None
  pub derives : derived_entries columns log.entries.items ≡ Ok weighed.entries.items
  pub same : (weighed.previous ≡ log.previous) × (weighed.varied.items ≡ log.varied.items)

-- the refusal of a column that a log says is compared otherwise; or out of memory
abbrev pub IsOtherCollation : KeyPart → SourceFault → Type 0
IsOtherCollation part (sources.Logless (why.Collation table column)) = (table ≡ part.table) × (column ≡ part.column)
IsOtherCollation part (sources.Text fault) = fault ≡ reads.Set Memory
IsOtherCollation part _ = ⊥

abbrev pub unweighed : DerivationFault → SourceFault
unweighed derivations.Memory = sources.Text (reads.Set Memory)
unweighed (derivations.NoHiddenValue gtid table column) = sources.Logless (why.Weights gtid table column)

-- why the log has none
abbrev pub IsUnweighedLog : List DerivedColumn → LoggedTransactions → SourceFault → Type 0
IsUnweighedLog columns log (sources.Text fault) = fault ≡ reads.Set Memory
IsUnweighedLog columns log (sources.Logless (why.Collation table column)) =
    (part : KeyPart) × (first_other columns log.varied.items ≡ Some part) × (table ≡ part.table) × (column ≡ part.column)
IsUnweighedLog columns log (sources.Logless (why.Weights gtid table column)) =
    (first_other columns log.varied.items ≡ None) × (derived_entries columns log.entries.items ≡ Err (NoHiddenValue gtid table column))
IsUnweighedLog columns log _ = ⊥

-- ---- bundles of logs

-- The text describes the bundle, with what its head says that hidden columns hold.
pub record ImportsLogs (grants : Grants) (origin : Origin) (text : List ℕ) (b : BundleValue) (notes : List ℕ) : Type 0 where
  pub columns : List DerivedColumn
  pub imports : ImportsBundle (terms_of grants (weighed columns origin)) text b notes

-- why it describes none
pub record IsNoImportOfLogs (grants : Grants) (origin : Origin) (fault : BundleFault) (text : List ℕ) : Type 0 where
  pub columns : List DerivedColumn
  pub refused : IsNoBundle (terms_of grants (weighed columns origin)) fault text
