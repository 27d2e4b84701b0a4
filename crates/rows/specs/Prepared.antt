-- Transactions that are prepared beside the rows.
use Rattle.std.specs.Prelude.{Bool, true, false, ◌&&◌, ◌==◌, nat_eq, List, Option, Some, None, IsOk}
use Rattle.std.specs.Cmp.Lexicographic.{pointwise, slice_cmp}
use Rattle.std.specs.List.{list_all}
use Rattle.std.specs.Ordering.{nat_cmp, eq_by_cmp}
use Rattle.rows.specs.declared.change.Change.{Change}
use Rattle.rows.specs.declared.change.Transaction.{Transaction}
use Rattle.rows.specs.declared.patch.Seen.{Seen}
use Rattle.rows.specs.declared.patch.Touch.{Touch}
use Rattle.rows.specs.contracts.limits.LimitsPartialEq.TheImpl as it
use Rattle.rows.specs.declared.schema.Table.{Table}
use Rattle.rows.specs.Apply.{Rows, apply}
use Rattle.rows.specs.Database.{Database}
use Rattle.rows.specs.Fits.{table_of, Fits}
use Rattle.rows.specs.Keys.{find_table}
use Rattle.rows.specs.Patch.{IsAsSeen, IsPatchOf, PutsAlike, SameTables}

-- the tables that were seen, and keys with the rows that carried them
pub record Sight : Type 0 where
  pub schema : List Table
  pub seen : List Seen

-- a transaction, and what was seen when it was prepared
pub record Plan : Type 0 where
  pub schema : List Table
  pub txn : Transaction
  pub seen : List Seen

-- The tables that the transaction names are as they were, and so is the carrier of each key that was seen.
pub record IsStillTrue (plan : Plan) (now : Database) : Type 0 where
  pub tables : SameTables plan.schema now.schema plan.txn.changes
  pub carriers : IsAsSeen plan.seen now.rows

-- On rows that are as they were seen the transaction is not refused.
abbrev pub Applies : Sight → Transaction → Type 0
Applies sight txn = (rows : Rows) → IsAsSeen sight.seen rows → IsOk (apply sight.schema txn rows)

-- the invariant of a patch
pub record IsPrepared (schema : List Table) (txn : Transaction) (touches : List Touch) : Type 0 where
  pub fits : Fits schema txn
  pub patch : IsPatchOf schema txn touches
  pub alike : PutsAlike touches

-- ---- the test of tables

abbrev pub table_eq : Table → Table → Bool
table_eq a b = eq_by_cmp (slice_cmp nat_cmp) a.name b.name && (a.columns == b.columns && (pointwise nat_eq a.primary b.primary && (pointwise (pointwise nat_eq) a.uniques b.uniques && (a.hidden == b.hidden && it.eq-value.it a.limits b.limits))))

abbrev pub same_table : Option Table → Option Table → Bool
same_table None None = true
same_table None (Some b) = false
same_table (Some a) None = false
same_table (Some a) (Some b) = table_eq a b

abbrev pub same_tables : List Table → List Table → List Change → Bool
same_tables a b changes = list_all (λ change. same_table (find_table (table_of change) a) (find_table (table_of change) b)) changes
