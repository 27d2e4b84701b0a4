-- Where the logs of channels come from, and what an operator grants.
use Rattle.std.specs.Prelude.{◌≡◌, ◌⊎◌, ℕ, Bool, false, List, []}
use Rattle.gtid_set.specs.Sets.{Gtids}
use Rattle.gtid_set.specs.declared.fault.SetFault.TheVariants.{Memory}
use Rattle.journal.specs.declared.Entry.{Entry}
use Rattle.log_transactions.specs.declared.varied.Varied.{Varied}
use Rattle.derived_columns.specs.declared.column.DerivedColumn.{DerivedColumn}
use Rattle.txn_journal.specs.BundleStates.{BundleValue}
use Rattle.binlog_entries.specs.Imports.{IsWritten, IsNotWritten}
use Rattle.binlog_entries.specs.Stream.{IsLog, Refuses}
use Rattle.binlog_entries.specs.declared.fault.ReadFault.TheVariants as reads
use Rattle.binlog_entries.specs.declared.import.ImportFault.{ImportFault}
use Rattle.binlog_entries.specs.declared.import.ImportFault.TheVariants as imports
use Rattle.binlog_bundle.specs.Accepted.{accepted_in}
use Rattle.binlog_bundle.specs.declared.grants.Grants.{Grants}
use Rattle.binlog_bundle.specs.declared.fault.SourceFault.{SourceFault}
use Rattle.binlog_bundle.specs.declared.fault.SourceFault.TheVariants as sources

-- Where the logs of channels come from, by the channel's name and the text behind its line.
pub record Origin : Type 1 where
  -- what hidden columns hold, behind the others in each image
  pub columns : List DerivedColumn
  -- the GTIDs for whose statements an operator answers
  pub accepted : Gtids
  -- If these GTIDs are in the opening set, the channel has a log, and this is in it: what was executed before, its entries, and the columns
  -- that the server compares otherwise than by their bytes.
  pub is_log : List ℕ → List ℕ → Gtids → Gtids → List Entry → List Varied → Type 0
  -- damage in the log of the channel couldn't be seen
  pub is_unchecked : List ℕ → Bool
  -- there is no log of the channel, for this reason
  pub refuses : List ℕ → List ℕ → Gtids → SourceFault → Type 0

-- how a text is imported
pub record Terms : Type 1 where
  pub grants : Grants
  pub origin : Origin

abbrev pub terms_of : Grants → Origin → Terms
terms_of grants origin = record { grants = grants; origin = origin }

-- ---- journals

-- The channel of this name, with this text behind its line, has a log. This is the text of its journal, whose entries change the tables of the
-- head, these are the places of the tables with a key that isn't compared by bytes, and the transactions for whose statements an operator
-- answers. The head alone begins this bundle.
pub record BringsJournal (terms : Terms) (start : BundleValue) (name text journal places : List ℕ) (statements : Gtids) : Type 0 where
  pub previous : Gtids
  pub entries : List Entry
  pub varied : List Varied
  pub log : terms.origin.is_log name text start.opened previous entries varied
  pub writes : IsWritten start.start.schema terms.grants.bytes previous entries varied journal places
  pub answered : statements ≡ accepted_in terms.origin.accepted entries

-- the channel has a log, which is not written as a journal
pub record HasUnwritten (terms : Terms) (start : BundleValue) (name text : List ℕ) (fault : ImportFault) : Type 0 where
  pub previous : Gtids
  pub entries : List Entry
  pub varied : List Varied
  pub log : terms.origin.is_log name text start.opened previous entries varied
  pub refused : IsNotWritten start.start.schema terms.grants.bytes previous entries varied fault

-- why a channel has no journal: the text that is its log isn't read, or its log isn't written as a journal; or out of memory
abbrev pub BringsNone : Terms → BundleValue → List ℕ → List ℕ → ImportFault → Type 0
BringsNone terms start name text (imports.Text fault) = terms.origin.refuses name text start.opened (sources.Text fault) ⊎ (fault ≡ reads.Set Memory)
BringsNone terms start name text (imports.Key table column) = HasUnwritten terms start name text (imports.Key table column)
BringsNone terms start name text (imports.Log fault) = HasUnwritten terms start name text (imports.Log fault)

-- ---- texts of logs

-- why a text is no log's
abbrev pub IsNoText : Gtids → List ℕ → SourceFault → Type 0
IsNoText opening text (sources.Text fault) = Refuses opening fault text
IsNoText opening text (sources.Logless why) = ⊥
IsNoText opening text (sources.File fault) = ⊥

-- the text behind the line of a channel is that of its log, whatever its name is
abbrev pub texts : Gtids → Origin
texts accepted = record {
  columns = [];
  accepted = accepted;
  is_log = (λ name text opening previous entries varied. IsLog opening text previous entries varied);
  is_unchecked = (λ name. false);
  refuses = (λ name text opening fault. IsNoText opening text fault);
}
