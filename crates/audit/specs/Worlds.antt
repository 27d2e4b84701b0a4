-- What a world keeps, and which world is that of journals.
use Rattle.std.specs.Prelude.{◌≡◌, ◌⊎◌, ℕ, ◌<◌, Bool, false, true, All, List, Option, Some, None, slice_get, slice_index_or}
use Rattle.std.specs.FinMap as finmap
use Rattle.std.specs.FinSet as set
use Rattle.gtid_text.specs.declared.Gtid.{Gtid}
use Rattle.rows.specs.declared.change.NotInSchema.{NotInSchema}
use Rattle.rows.specs.declared.change.Transaction.{Transaction}
use Rattle.rows.specs.declared.schema.Table.{Table}
use Rattle.rows.specs.Fits.{misfit, Fits}
use Rattle.journal.specs.declared.Entry.{Entry}
use Rattle.journal.specs.Journals.{JournalValue}
use Rattle.history.specs.Sources.{World}
use Rattle.gtid_set.specs.Sets.{Gtids}
use Rattle.rows.specs.Database.{Database}
use Rattle.world.specs.declared.verdict.Verdict.{Verdict}
use Rattle.world.specs.Audit.{all_entries, first_contents, is_recorded_in, world_of, verdict, verdict_of_keys}
use Rattle.audit.specs.Contents.{Contents, in_order}
use Rattle.audit.specs.declared.sources.WorldFault.{WorldFault}
use Rattle.audit.specs.declared.sources.WorldFault.TheVariants as world

-- The world of these journals: what they brought first under each GTID beyond the opening set.
abbrev pub IsWorldOf : World → List JournalValue → Type 0
IsWorldOf world journals = world ≡ world_of world.schema world.opening_set world.opening_rows journals

-- what an audit of journals finds in their own world over an opening set and rows, and what an audit of their keys finds
abbrev pub verdict_over : Database → Gtids → List JournalValue → Verdict
verdict_over rows opened journals = verdict (world_of rows.schema opened rows.rows journals) journals

abbrev pub keys_verdict_over : Database → Gtids → List JournalValue → Verdict
keys_verdict_over rows opened journals = verdict_of_keys (world_of rows.schema opened rows.rows journals) journals

-- the schema takes each transaction
abbrev pub AllFit : List Table → List Entry → Type 0
AllFit schema entries = All (λ e. Fits schema e.txn) entries

-- transactions that sources committed since the opening set: it has none of their GTIDs, and numbers begin with 1
pub record LieBeyond (opened : Gtids) (contents : Contents) : Type 0 where
  pub outside : (g : Gtid) (t : Transaction) → finmap.get contents g ≡ Some t → set.contains opened g ≡ false
  pub from_one : (g : Gtid) (t : Transaction) → finmap.get contents g ≡ Some t → 0 < g.number

-- these are the transactions in the order of GTIDs, and each of them fits the schema
pub record IsKept (schema : List Table) (contents : Contents) (entries : List Entry) : Type 0 where
  pub listed : entries ≡ in_order contents
  pub fitting : AllFit schema entries

-- one of these has this GTID, and this is why the schema does not take it
pub record IsMisfit (schema : List Table) (entries : List Entry) (g : Gtid) (fault : NotInSchema) : Type 0 where
  pub place : ℕ
  pub entry : Entry
  pub there : slice_get entries place ≡ Some entry
  pub named : entry.gtid ≡ g
  pub unfit : misfit schema entry.txn ≡ Some fault

-- Why there is no world: out of memory, or the schema does not take what journals bring first under this GTID.
abbrev pub IsWorldFault : List Table → Gtids → List JournalValue → WorldFault → Type 0
IsWorldFault schema opened journals world.Memory = Unit {0}
IsWorldFault schema opened journals (world.NotInSchema g fault) = IsMisfit schema (in_order (first_contents opened (all_entries journals))) g fault

-- ---- places in the order of GTIDs

-- at this place is the transaction of a GTID
pub record IsPlaceOf (contents : Contents) (g : Gtid) (place : ℕ) : Type 0 where
  pub entry : Entry
  pub there : slice_get (in_order contents) place ≡ Some entry
  pub named : entry.gtid ≡ g
  pub content : finmap.get contents g ≡ Some entry.txn

-- the place of a GTID, if it has a transaction
abbrev pub IsPlaceIn : Contents → Gtid → Option ℕ → Type 0
IsPlaceIn contents g None = finmap.get contents g ≡ None
IsPlaceIn contents g (Some place) = IsPlaceOf contents g place

-- of the places that were not marked before only those of these entries' GTIDs are marked
abbrev pub AreMarkedMore : Contents → List Entry → List Bool → List Bool → Type 0
AreMarkedMore contents es old new = (place : ℕ) (e : Entry) → slice_get (in_order contents) place ≡ Some e → slice_index_or new place false ≡ true → (slice_index_or old place false ≡ true) ⊎ (is_recorded_in es e.gtid ≡ true)

-- each transaction's GTID is that of one of these entries
abbrev pub AreAllIn : Contents → List Entry → Type 0
AreAllIn contents es = (g : Gtid) (t : Transaction) → finmap.get contents g ≡ Some t → is_recorded_in es g ≡ true
