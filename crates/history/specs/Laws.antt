-- The laws of what was committed in one order.
use Rattle.std.specs.Prelude.{◌≡◌, Bool, false, List, Some, Ok, IsOk}
use Rattle.std.specs.FinMap.{get}
use Rattle.std.specs.FinSet.{FinSet, union, intersection, contains}
use Rattle.gtid_text.specs.declared.Gtid.{Gtid}
use Rattle.gtid_text.specs.Gtids.{gtid_cmp}
use Rattle.rows.specs.declared.change.Key.{Key}
use Rattle.rows.specs.declared.change.Transaction.{Transaction}
use Rattle.rows.specs.Apply.{Rows, apply}
use Rattle.rows.specs.Carriers.{AreCarriers}
use Rattle.history.specs.World.{OrderedWorld, content, is_opened, rows_of, AreGtidsSound, IsSound, IsClosed}
use Rattle.history.specs.LastWriter.{last_writer}
use Rattle.history.specs.Commits.{with_one, with_each, rows_after, IsCommitOrder}
use Rattle.history.specs.Join.{either, both}

-- ---- the order of commits

-- Whatever order transactions are committed in, each after those before it in the world's order that conflict with it,
-- none is refused, and the rows are those of the set.
abbrev pub CommitOrderIsFree : Type 0
CommitOrderIsFree = (world : OrderedWorld) (gs : List Gtid) → IsSound world → IsCommitOrder world (is_opened world) gs
    → (rows : Rows) × (rows_after world gs world.opening_rows ≡ Ok rows) × (rows_of world (with_each (is_opened world) gs) ≡ Ok rows)

-- Two commit orders of one set end in equal rows.
abbrev pub CommitOrdersAgree : Type 0
CommitOrdersAgree = (world : OrderedWorld) (gs hs : List Gtid) → IsSound world
    → IsCommitOrder world (is_opened world) gs → IsCommitOrder world (is_opened world) hs
    → ((g : Gtid) → with_each (is_opened world) gs g ≡ with_each (is_opened world) hs g)
    → (rows : Rows) × (rows_after world gs world.opening_rows ≡ Ok rows) × (rows_after world hs world.opening_rows ≡ Ok rows)

-- A transaction that comes late is not refused, and the rows are those of the set with it in its place.
abbrev pub LateCommit : Type 0
LateCommit = (world : OrderedWorld) (S : Gtid → Bool) (g : Gtid) (t : Transaction) (rows : Rows) → IsSound world
    → IsClosed world S → IsClosed world (with_one S g) → S g ≡ false → content world g ≡ Some t → rows_of world S ≡ Ok rows
    → (new : Rows) × (apply world.schema t rows ≡ Ok new) × (rows_of world (with_one S g) ≡ Ok new)

-- A transaction that applies after a closed set applies in its place, and leaves the same rows: the GTIDs alone need be sound.
abbrev pub EarlyCommit : Type 0
EarlyCommit = (world : OrderedWorld) (S : Gtid → Bool) (g : Gtid) (t : Transaction) (rows new : Rows) → AreGtidsSound world
    → IsClosed world S → S g ≡ false → content world g ≡ Some t → rows_of world S ≡ Ok rows
    → apply world.schema t rows ≡ Ok new → rows_of world (with_one S g) ≡ Ok new

-- ---- the rows of a set

-- The opening set is closed, and denotes the opening rows: the GTIDs alone need be sound.
abbrev pub OpeningIsClosed : Type 0
OpeningIsClosed = (world : OrderedWorld) → AreGtidsSound world → IsClosed world (is_opened world) × (rows_of world (is_opened world) ≡ Ok world.opening_rows)

-- The rows of a closed set are defined.
abbrev pub ClosedSetsApply : Type 0
ClosedSetsApply = (world : OrderedWorld) (S : Gtid → Bool) → IsSound world → IsClosed world S → IsOk (rows_of world S)

-- Under each key is the row that its last writer left. No soundness is needed.
abbrev pub RowIsOfLastWriter : Type 0
RowIsOfLastWriter = (world : OrderedWorld) (S : Gtid → Bool) (rows : Rows) → rows_of world S ≡ Ok rows
    → (k : Key) → get rows k ≡ last_writer world S k

-- Each row is stored under every key that it carries, and under no other; so no key has a second row.
abbrev pub RowsAreCarriers : Type 0
RowsAreCarriers = (world : OrderedWorld) (S : Gtid → Bool) (rows : Rows) → AreCarriers world.schema world.opening_rows
    → rows_of world S ≡ Ok rows → AreCarriers world.schema rows

-- ---- closed sets

abbrev pub ClosedUnderUnion : Type 0
ClosedUnderUnion = (world : OrderedWorld) (S U : Gtid → Bool) → IsClosed world S → IsClosed world U → IsClosed world (either S U)

abbrev pub ClosedUnderIntersection : Type 0
ClosedUnderIntersection = (world : OrderedWorld) (S U : Gtid → Bool) → IsClosed world S → IsClosed world U → IsClosed world (both S U)

-- the same of finite sets
pub record ClosedSetsAreALattice : Type 0 where
  pub join : (world : OrderedWorld) (a b : FinSet gtid_cmp) → IsClosed world (contains a) → IsClosed world (contains b) → IsClosed world (contains (union a b))
  pub meet : (world : OrderedWorld) (a b : FinSet gtid_cmp) → IsClosed world (contains a) → IsClosed world (contains b) → IsClosed world (contains (intersection a b))
