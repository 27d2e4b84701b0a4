-- What the verdicts name is the least, or the first, of its kind.
use Rattle.std.specs.Prelude.{◌≡◌, ◌≢◌, ℕ, ◌<◌, List, Some, IsOk, slice_get}
use Rattle.std.specs.declared.cmp.Ordering.TheVariants.{Less}
use Rattle.gtid_text.specs.declared.Gtid.{Gtid}
use Rattle.gtid_text.specs.Gtids.{gtid_cmp}
use Rattle.rows.specs.declared.change.Key.{Key}
use Rattle.rows.specs.declared.change.RowFault.{RowFault}
use Rattle.rows.specs.declared.change.Transaction.{Transaction}
use Rattle.rows.specs.WriteSet.{write_set}
use Rattle.journal.specs.Journals.{JournalValue}
use Rattle.history.specs.Sources.{World, content, of_source, rows_of}
use Rattle.world.specs.declared.verdict.Verdict.TheVariants.{Missing, Shared, DoesNotApply}
use Rattle.world.specs.Audit.{missing, shared, does_not_apply}
use Rattle.world.specs.Cases.{IsMissing, IsShared}

-- No lesser GTID is missing.
abbrev pub MissingIsLeast : Type 0
MissingIsLeast = (world : World) (journals : List JournalValue) (g : Gtid) → missing world journals ≡ Some (Missing g)
    → (h : Gtid) → IsMissing world journals h → gtid_cmp h g ≢ Less

-- No lesser GTID conflicts with one of a smaller source, this one at no earlier key of its own, and at that key with no lesser GTID.
pub record IsLeastShared (world : World) (g h : Gtid) (key : Key) : Type 0 where
  pub second : (a b : Gtid) (k : Key) → IsShared world a b k → gtid_cmp b h ≢ Less
  pub u : Transaction
  pub there : content world h ≡ Some u
  pub place : ℕ
  pub stands : slice_get (write_set world.schema u) place ≡ Some key
  pub earlier : (i : ℕ) (k : Key) (a : Gtid) → i < place → slice_get (write_set world.schema u) i ≡ Some k → IsShared world a h k → ⊥
  pub first : (a : Gtid) → IsShared world a h key → gtid_cmp a g ≢ Less

abbrev pub SharedIsLeast : Type 0
SharedIsLeast = (world : World) (g h : Gtid) (key : Key) → shared world ≡ Some (Shared g h key) → IsLeastShared world g h key

-- What each smaller source committed applies alone.
abbrev pub FirstSourceFails : Type 0
FirstSourceFails = (world : World) (g : Gtid) (fault : RowFault) → does_not_apply world ≡ Some (DoesNotApply g fault)
    → (s : ℕ) → s < g.source → IsOk (rows_of world (of_source s))
