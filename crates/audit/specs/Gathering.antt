-- What one pass over journals gathers: a world whose journals agree, and in which no two sources touch one key.
use Rattle.std.specs.Prelude.{◌≡◌, ◌≤◌, ◌++◌, ℕ, true, false, List, [], ◌∷◌, Option, Some, None, slice_get, slice_set}
use Rattle.std.specs.List.{Contains, flat_map}
use Rattle.std.specs.FinMap as finmap
use Rattle.std.specs.FinSet as set
use Rattle.gtid_text.specs.declared.Gtid.{Gtid}
use Rattle.gtid_set.specs.Sets.{Gtids}
use Rattle.rows.specs.Apply.{Rows}
use Rattle.rows.specs.declared.change.Key.{Key}
use Rattle.rows.specs.declared.change.Transaction.{Transaction}
use Rattle.rows.specs.declared.schema.Table.{Table}
use Rattle.rows.specs.WriteSet.{touches}
use Rattle.journal.specs.declared.Entry.{Entry}
use Rattle.journal.specs.Journals.{JournalValue}
use Rattle.world.specs.Audit.{shared, unequal, world_of}
use Rattle.audit.specs.Contents.{Contents}
use Rattle.audit.specs.Marks.{key_mark}
use Rattle.audit.specs.Worlds.{AreAllIn}

-- what journals brought of one source: the number that came last, and the first entry of each GTID
pub record Run : Type 0 where
  pub source : ℕ
  pub last : ℕ
  pub entries : List Entry

-- of a source nothing came yet
abbrev pub begun : ℕ → Run
begun source = record { source = source; last = 0; entries = [] }

-- an entry more
abbrev pub longer : Run → Entry → Run
longer run e = record { source = run.source; last = e.gtid.number; entries = run.entries ++ e ∷ [] }

-- an entry is one of a list
pub record IsListed (es : List Entry) (e : Entry) : Type 0 where
  pub place : ℕ
  pub there : slice_get es place ≡ Some e

-- at this place is the run of a source
pub record IsRunAt (runs : List Run) (source : ℕ) (place : ℕ) : Type 0 where
  pub run : Run
  pub there : slice_get runs place ≡ Some run
  pub own : run.source ≡ source

-- no run is of this source
abbrev pub HasNoRun : List Run → ℕ → Type 0
HasNoRun runs source = (place : ℕ) (run : Run) → slice_get runs place ≡ Some run → run.source ≡ source → ⊥

-- an entry was appended to the run at a place
pub record IsPut (old new : List Run) (place : ℕ) (e : Entry) : Type 0 where
  pub run : Run
  pub there : slice_get old place ≡ Some run
  pub now : new ≡ slice_set old place (longer run e)

-- a run of each source has all of what came first, and no greater number came than its last
pub record AreRuns (contents : Contents) (runs : List Run) : Type 0 where
  pub firsts : (place : ℕ) (run : Run) → slice_get runs place ≡ Some run → (k : ℕ) (e : Entry) → slice_get run.entries k ≡ Some e → finmap.get contents e.gtid ≡ Some e.txn
  pub below : (g : Gtid) (t : Transaction) → finmap.get contents g ≡ Some t → (place : ℕ) (run : Run) → slice_get runs place ≡ Some run → run.source ≡ g.source → g.number ≤ run.last
  pub of_each : (g : Gtid) (t : Transaction) → finmap.get contents g ≡ Some t → (place : ℕ) × IsRunAt runs g.source place
  pub listed : (g : Gtid) (t : Transaction) → finmap.get contents g ≡ Some t → (place : ℕ) (run : Run) → slice_get runs place ≡ Some run → run.source ≡ g.source → Contains run.entries (record { gtid = g; txn = t })
  pub once : (i j : ℕ) (a b : Run) → slice_get runs i ≡ Some a → slice_get runs j ≡ Some b → a.source ≡ b.source → i ≡ j

-- the mark of each key that was touched has the source that touched it
abbrev pub AreOwned : List Table → Contents → (ℕ → Option ℕ) → Type 0
AreOwned schema contents owner = (g : Gtid) (t : Transaction) → finmap.get contents g ≡ Some t → (key : Key) → touches schema t key ≡ true → owner (key_mark key) ≡ Some g.source

-- These entries agree with one another beyond the opening set, and no two sources touch one key.
pub record IsGathered (opened : Gtids) (schema : List Table) (es : List Entry) (runs : List Run) (owner : ℕ → Option ℕ) : Type 0 where
  pub contents : Contents
  pub known : (k : ℕ) (x : Entry) → slice_get es k ≡ Some x → set.contains opened x.gtid ≡ false → finmap.get contents x.gtid ≡ Some x.txn
  pub all : AreAllIn contents es
  pub outside : (g : Gtid) (t : Transaction) → finmap.get contents g ≡ Some t → set.contains opened g ≡ false
  pub standing : AreRuns contents runs
  pub owned : AreOwned schema contents owner

-- the entries of all runs, run after run
abbrev pub entries_of : List Run → List Entry
entries_of runs = flat_map (λ (run : Run). run.entries) runs

-- these are a map's transactions, in whatever order
pub record AreListed (contents : Contents) (es : List Entry) : Type 0 where
  pub only : (e : Entry) → Contains es e → finmap.get contents e.gtid ≡ Some e.txn
  pub every : (g : Gtid) (t : Transaction) → finmap.get contents g ≡ Some t → Contains es (record { gtid = g; txn = t })

-- no two transactions of journals under one GTID differ, and no two sources touch one key
pub record AgreeApart (opened : Gtids) (schema : List Table) (journals : List JournalValue) : Type 0 where
  pub equal : (rows : Rows) → unequal (world_of schema opened rows journals) journals ≡ None
  pub apart : (rows : Rows) → shared (world_of schema opened rows journals) ≡ None
