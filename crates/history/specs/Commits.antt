-- Transactions that are committed one after another, in any order that keeps the order of what conflicts.
use Rattle.std.specs.Prelude.{◌≡◌, Bool, false, ◌||◌, List, [], ◌∷◌, Option, Some, None, Result, Ok}
use Rattle.gtid_text.specs.declared.Gtid.{Gtid}
use Rattle.gtid_text.specs.Gtids.{same_gtid}
use Rattle.rows.specs.declared.change.Transaction.{Transaction}
use Rattle.rows.specs.declared.change.RowFault.{RowFault}
use Rattle.rows.specs.declared.schema.Table.{Table}
use Rattle.rows.specs.Apply.{Rows, ◌>>=◌, apply}
use Rattle.history.specs.World.{OrderedWorld, content, IsClosed}

-- the set with one GTID more
abbrev pub with_one : (Gtid → Bool) → Gtid → Gtid → Bool
with_one S g h = same_gtid h g || S h

-- the set with each of these
abbrev pub with_each : (Gtid → Bool) → List Gtid → Gtid → Bool
with_each S [] = S
with_each S (g ∷ gs) = with_each (with_one S g) gs

abbrev pub apply_known : List Table → Option Transaction → Rows → Result Rows RowFault
apply_known schema None rows = Ok rows
apply_known schema (Some t) rows = apply schema t rows

-- the rows after the transactions of these GTIDs, in this order
abbrev pub rows_after : OrderedWorld → List Gtid → Rows → Result Rows RowFault
rows_after world [] rows = Ok rows
rows_after world (g ∷ gs) rows = apply_known world.schema (content world g) rows >>= rows_after world gs

-- Each is new when it is committed, and what has been committed then is closed: it comes after each that comes before it in
-- the world's order and conflicts with it. So the list is a linear extension of the conflict order on what it commits.
abbrev pub IsCommitOrder : OrderedWorld → (Gtid → Bool) → List Gtid → Type 0
IsCommitOrder world S [] = Unit {0}
IsCommitOrder world S (g ∷ gs) = (S g ≡ false) × IsClosed world (with_one S g) × IsCommitOrder world (with_one S g) gs
