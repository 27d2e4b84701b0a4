-- The laws of what several sources committed.
use Rattle.std.specs.Prelude.{◌≡◌, ℕ, Bool, false, List, Result, Ok, Err, IsOk, ◌↔◌}
use Rattle.std.specs.FinMap.{get, entries}
use Rattle.std.specs.FinSet.{FinSet, union, intersection, contains}
use Rattle.gtid_text.specs.declared.Gtid.{Gtid}
use Rattle.gtid_text.specs.Gtids.{gtid_cmp}
use Rattle.rows.specs.declared.change.Key.{Key}
use Rattle.rows.specs.declared.change.RowFault.{RowFault}
use Rattle.rows.specs.declared.change.Transaction.{Transaction}
use Rattle.rows.specs.declared.schema.Table.{Table}
use Rattle.rows.specs.Apply.{Rows, ◌>>=◌, apply}
use Rattle.rows.specs.WriteSet.{touches, shares_key, AgreeOn, Alike}
use Rattle.history.specs.Sources.{World, of_source, apply_all, rows_of, AreKeysSound, IsClosedBySource}
use Rattle.history.specs.Join.{either, both}

-- ---- two transactions

-- A transaction leaves what is stored under the keys that it does not touch.
abbrev pub UntouchedStays : Type 0
UntouchedStays = (schema : List Table) (t : Transaction) (rows new : Rows) (k : Key)
    → apply schema t rows ≡ Ok new → touches schema t k ≡ false → get new k ≡ get rows k

-- On rows that agree under the keys that it touches, a transaction is refused for the same reason, or leaves the same there.
abbrev pub TouchedDecides : Type 0
TouchedDecides = (schema : List Table) (t : Transaction) (a b : Rows)
    → AgreeOn (touches schema t) a b → Alike (touches schema t) (apply schema t a) (apply schema t b)

-- both refused, or both the same rows
abbrev pub SameOutcome : Result Rows RowFault → Result Rows RowFault → Type 0
SameOutcome (Ok a) (Ok b) = a ≡ b
SameOutcome (Err e) (Err f) = Unit {0}
SameOutcome (Ok a) (Err f) = ⊥
SameOutcome (Err e) (Ok b) = ⊥

-- Two transactions without a common key commute: either order refuses one of them, or both orders leave the same rows.
abbrev pub ApartCommute : Type 0
ApartCommute = (schema : List Table) (t u : Transaction) (rows : Rows) → shares_key schema t u ≡ false
    → SameOutcome (apply schema t rows >>= apply schema u) (apply schema u rows >>= apply schema t)

-- ---- a world

-- What all sources committed applies together if and only if what each committed applies alone: only the keys need be sound.
abbrev pub AloneOrTogether : Type 0
AloneOrTogether = (world : World) → AreKeysSound world
    → ((s : ℕ) → IsOk (rows_of world (of_source s))) ↔ IsOk (apply_all world.schema (entries world.contents) world.opening_rows)

-- ---- closed sets

-- The union of two sets that are closed by source is closed by source, and so is what they have in common; of finite sets and of any.
pub record ClosedBySourceAreALattice : Type 0 where
  pub unions : (world : World) (S U : Gtid → Bool) → IsClosedBySource world S → IsClosedBySource world U → IsClosedBySource world (either S U)
  pub intersections : (world : World) (S U : Gtid → Bool) → IsClosedBySource world S → IsClosedBySource world U → IsClosedBySource world (both S U)
  pub join : (world : World) (a b : FinSet gtid_cmp) → IsClosedBySource world (contains a) → IsClosedBySource world (contains b) → IsClosedBySource world (contains (union a b))
  pub meet : (world : World) (a b : FinSet gtid_cmp) → IsClosedBySource world (contains a) → IsClosedBySource world (contains b) → IsClosedBySource world (contains (intersection a b))
