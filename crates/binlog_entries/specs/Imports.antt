-- The text of a log as that of a journal.
use Rattle.std.specs.Prelude.{◌≡◌, ℕ, Bool, false, List, Some, None}
use Rattle.gtid_set.specs.Sets.{Gtids}
use Rattle.journal.specs.declared.Entry.{Entry}
use Rattle.rows.specs.declared.schema.Table.{Table}
use Rattle.txn_journal.specs.Spelling.{spelling_as}
use Rattle.txn_journal.specs.Stamps.{right_stamps}
use Rattle.txn_journal.specs.declared.lines.Version.TheVariants.{Three}
use Rattle.binlog_entries.specs.Journals.{IsNoJournal}
use Rattle.binlog_entries.specs.Keys.{varied_key, varied_places}
use Rattle.binlog_entries.specs.Stream.{IsLog, Refuses}
use Rattle.log_transactions.specs.declared.varied.Varied.{Varied}
use Rattle.binlog_entries.specs.declared.as_journal.LogFault.{LogFault}
use Rattle.gtid_set.specs.declared.fault.SetFault.TheVariants.{Memory}
use Rattle.binlog_entries.specs.declared.fault.ReadFault.TheVariants as reads
use Rattle.binlog_entries.specs.declared.import.ImportFault.{ImportFault}
use Rattle.binlog_entries.specs.declared.import.ImportFault.TheVariants as faults

-- the server compares each key of these tables by its bytes, or that is not required
abbrev pub AreKeysTaken : List Table → Bool → List Varied → Type 0
AreKeysTaken tables bytes varied = bytes ≡ false → varied_key tables varied ≡ None

-- What is written is the text, by version 3, of the journal of these entries after this set. The server compares each key by its bytes, unless
-- that is not required: then these are the places of the tables with a key that it doesn't.
pub record IsWritten (tables : List Table) (bytes : Bool) (previous : Gtids) (entries : List Entry) (varied : List Varied) (written places : List ℕ) : Type 0 where
  pub keys : AreKeysTaken tables bytes varied
  pub varies : places ≡ varied_places 0 tables varied
  pub spells : written ≡ spelling_as Three (right_stamps Three tables entries) (record { previous = previous; entries = entries })

-- Why they are not written: the first column of a key that the server compares otherwise than its bytes is this one of this table, if keys
-- are tested; or the keys are taken, and the first entry that does not follow those before it has this fault; or out of memory.
abbrev pub IsNotWritten : List Table → Bool → Gtids → List Entry → List Varied → ImportFault → Type 0
IsNotWritten tables bytes previous entries varied (faults.Text fault) = fault ≡ reads.Set Memory
IsNotWritten tables bytes previous entries varied (faults.Key table column) = (bytes ≡ false) × (varied_key tables varied ≡ Some (table, column))
IsNotWritten tables bytes previous entries varied (faults.Log fault) = AreKeysTaken tables bytes varied × IsNoJournal fault previous entries

-- The entries denote what the lines of the log's text mean, after what was executed before by these lines, and their journal is what is
-- written.
pub record Imports (tables : List Table) (opening : Gtids) (bytes : Bool) (text written places : List ℕ) : Type 0 where
  pub previous : Gtids
  pub entries : List Entry
  pub varied : List Varied
  pub log : IsLog opening text previous entries varied
  pub writes : IsWritten tables bytes previous entries varied written places

-- the text is that of a log whose keys are taken, and its first entry that does not follow those before it has this fault
pub record IsUnfit (tables : List Table) (opening : Gtids) (bytes : Bool) (fault : LogFault) (text : List ℕ) : Type 0 where
  pub previous : Gtids
  pub entries : List Entry
  pub varied : List Varied
  pub log : IsLog opening text previous entries varied
  pub keys : AreKeysTaken tables bytes varied
  pub unfit : IsNoJournal fault previous entries

-- the text is that of a log, and the first column of a key that the server compares otherwise than its bytes is this one of this table
pub record HasVariedKey (tables : List Table) (opening : Gtids) (table : List ℕ) (column : ℕ) (text : List ℕ) : Type 0 where
  pub previous : Gtids
  pub entries : List Entry
  pub varied : List Varied
  pub log : IsLog opening text previous entries varied
  pub key : varied_key tables varied ≡ Some (table, column)

-- the fault names the first column of a key that the server does not compare by its bytes, or out of memory for it
abbrev pub IsKeyFault : List Table → Bool → List Varied → ImportFault → Type 0
IsKeyFault tables bytes varied (faults.Key table column) = (bytes ≡ false) × (varied_key tables varied ≡ Some (table, column))
IsKeyFault tables bytes varied (faults.Text fault) = fault ≡ reads.Set Memory
IsKeyFault tables bytes varied (faults.Log fault) = ⊥

-- A line is refused, or else a key, if keys are tested, or else an entry. If there was no memory for the journal, nothing is claimed of it.
abbrev pub IsNoImport : List Table → Gtids → Bool → ImportFault → List ℕ → Type 0
IsNoImport tables opening bytes (faults.Text fault) text = Refuses opening fault text
IsNoImport tables opening bytes (faults.Key table column) text = (bytes ≡ false) × HasVariedKey tables opening table column text
IsNoImport tables opening bytes (faults.Log fault) text = IsUnfit tables opening bytes fault text
