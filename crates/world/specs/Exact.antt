-- What decides the rows that journals result in.
use Rattle.std.specs.Prelude.{◌≡◌, ℕ, List, [], ◌∷◌, ◌⊎◌, Some, Ok, slice_get}
use Rattle.std.specs.FinSet as set
use Rattle.gtid_set.specs.Sets.{Gtids}
use Rattle.rows.specs.declared.schema.Table.{Table}
use Rattle.rows.specs.Apply.{Rows}
use Rattle.rows.specs.Carriers.{AreCarriers}
use Rattle.journal.specs.declared.Entry.{Entry}
use Rattle.journal.specs.Journals.{JournalValue, whole}
use Rattle.history.specs.Sources as source
use Rattle.world.specs.declared.verdict.Verdict.TheVariants.{Sound}
use Rattle.world.specs.Audit.{all_entries, verdict}
use Rattle.world.specs.Audit as sources
use Rattle.world.specs.Meaning.{AreJournals}
use Rattle.history.specs.Join.{join}
use Rattle.history.specs.World.{rows_of}
use Rattle.world.specs.AuditInOrder.{verdict_in_order}
use Rattle.world.specs.MeaningInOrder.{joined_world}

-- this set with all that the journals have a record of
abbrev pub union_of : Gtids → List JournalValue → Gtids
union_of opened [] = opened
union_of opened (j ∷ journals) = join (whole j) (union_of opened journals)

-- The audit of sources reports Sound, and these are the rows of the union in the world of sources.
pub record HasRowsOfSources (schema : List Table) (opened : Gtids) (rows : Rows) (journals : List JournalValue) (left : Rows) : Type 0 where
  pub sound : verdict (sources.world_of schema opened rows journals) journals ≡ Sound
  pub rows_are : source.rows_of (sources.world_of schema opened rows journals) (set.contains (union_of opened journals)) ≡ Ok left

-- The audit in one order reports Sound, and these are the rows of the union in the world that the journals are joined to.
pub record HasRowsInOrder (schema : List Table) (opened : Gtids) (rows : Rows) (journals : List JournalValue) (left : Rows) : Type 0 where
  pub sound : verdict_in_order (sources.world_of schema opened rows journals) journals ≡ Sound
  pub rows_are : rows_of (joined_world schema opened rows journals) (set.contains (union_of opened journals)) ≡ Ok left

-- the journals result in these rows, by one of the audits
abbrev pub HasRows : List Table → Gtids → Rows → List JournalValue → Rows → Type 0
HasRows schema opened rows journals left = HasRowsOfSources schema opened rows journals left ⊎ HasRowsInOrder schema opened rows journals left

-- equal transactions under equal GTIDs
abbrev pub AgreeInContents : List Entry → List Entry → Type 0
AgreeInContents xs ys = (i k : ℕ) (e f : Entry) → slice_get xs i ≡ Some e → slice_get ys k ≡ Some f → e.gtid ≡ f.gtid → e.txn ≡ f.txn

-- Two lists of journals over one opening, whose entries agree in contents: if their unions are equal, so are the rows that they result in,
-- by whichever audits, and in whatever orders the journals have the transactions.
abbrev pub EqualUnionsEqualRows : Type 0
EqualUnionsEqualRows = (schema : List Table) (opened : Gtids) (rows a b : Rows) (js ks : List JournalValue)
    → AreCarriers schema rows → AreJournals js → AreJournals ks
    → AgreeInContents (all_entries js) (all_entries ks) → union_of opened js ≡ union_of opened ks
    → HasRows schema opened rows js a → HasRows schema opened rows ks b → a ≡ b
