-- What several sources committed, and the rows that a set of their transactions denotes.
use Rattle.std.specs.Prelude.{◌≡◌, ◌≢◌, ℕ, ◌<◌, ◌≤◌, ◌==◌, Bool, true, false, List, ◌⊎◌, Option, Some, IsSome, Result, IsOk}
use Rattle.std.specs.FinMap.{FinMap, get, entries}
use Rattle.std.specs.FinSet.{FinSet, contains}
use Rattle.gtid_text.specs.declared.Gtid.{Gtid}
use Rattle.gtid_text.specs.Gtids.{gtid_cmp}
use Rattle.rows.specs.declared.change.Transaction.{Transaction}
use Rattle.rows.specs.declared.change.RowFault.{RowFault}
use Rattle.rows.specs.declared.schema.Table.{Table}
use Rattle.rows.specs.Apply.{Rows}
use Rattle.rows.specs.Conflicts.{conflicts}
use Rattle.history.specs.World as ordered
use Rattle.history.specs.World.{OrderedWorld}

-- The tables, the GTIDs that were executed from the start with the rows that they left, and what each source committed since.
pub record World : Type 0 where
  pub schema : List Table
  pub opening_set : FinSet gtid_cmp
  pub opening_rows : Rows
  pub contents : FinMap gtid_cmp Transaction

abbrev pub is_opened : World → Gtid → Bool
is_opened world g = contains world.opening_set g

-- a transaction under its GTID
abbrev pub Entry : Type 0
Entry = Gtid × Transaction

-- the transaction that its source committed under a GTID
abbrev pub content : World → Gtid → Option Transaction
content world g = get world.contents g

-- the same in one order: sources ascending, and within a source numbers ascending
abbrev pub in_order : World → OrderedWorld
in_order world = record {
  schema = world.schema;
  opening_set = world.opening_set;
  opening_rows = world.opening_rows;
  order = entries world.contents;
}

abbrev pub entries_in : World → (Gtid → Bool) → List Entry
entries_in world S = ordered.entries_in (in_order world) S

abbrev pub apply_all : List Table → List Entry → Rows → Result Rows RowFault
apply_all schema es rows = ordered.apply_all schema es rows

abbrev pub rows_of : World → (Gtid → Bool) → Result Rows RowFault
rows_of world S = ordered.rows_of (in_order world) S

-- the GTIDs of one source
abbrev pub of_source : ℕ → Gtid → Bool
of_source source g = source == g.source

-- the n-th transaction of a source was executed from the start, or the source committed it since
abbrev pub HasNumber : World → ℕ → ℕ → Type 0
HasNumber world s n = let g : Gtid = record { source = s; number = n } in (is_opened world g ≡ true) ⊎ IsSome (content world g)

-- What is required of the sources but for the application of what they committed: it is about GTIDs and keys alone.
pub record AreKeysSound (world : World) : Type 0 where
  -- what was executed from the start has no content here
  pub outside : (g : Gtid) → IsSome (content world g) → is_opened world g ≡ false
  -- each source has numbers from 1 on, with none left out
  pub from_one : (g : Gtid) → IsSome (content world g) → 0 < g.number
  pub without_gap : (g : Gtid) (m : ℕ) → 0 < m → m ≤ g.number → IsSome (content world g) → HasNumber world g.source m
  -- transactions of two sources don't conflict
  pub apart : (g h : Gtid) (t u : Transaction) → content world g ≡ Some t → content world h ≡ Some u → g.source ≢ h.source → conflicts world.schema t u ≡ false

-- The sources can be merged: their keys are sound, and what each of them committed, taken alone, applies to the opening rows.
pub record IsSound (world : World) : Type 0 where
  pub keys : AreKeysSound world
  pub alone : (s : ℕ) → IsOk (rows_of world (of_source s))

-- closed in the order
abbrev pub IsClosed : World → (Gtid → Bool) → Type 0
IsClosed world S = ordered.IsClosed (in_order world) S

-- The set has what was executed from the start, and beside it what the sources committed. If a transaction is in it, so is each earlier one
-- of its source that conflicts with it.
pub record IsClosedBySource (world : World) (S : Gtid → Bool) : Type 0 where
  pub opened : (g : Gtid) → is_opened world g ≡ true → S g ≡ true
  pub known : (g : Gtid) → S g ≡ true → (is_opened world g ≡ true) ⊎ IsSome (content world g)
  pub earlier : (g h : Gtid) (t u : Transaction) → content world g ≡ Some t → content world h ≡ Some u → g.source ≡ h.source → g.number < h.number → conflicts world.schema t u ≡ true → S h ≡ true → S g ≡ true
