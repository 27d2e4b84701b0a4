-- Histories: what each of several servers committed since the opening, in its own order.
use Rattle.std.specs.Prelude.{◌≡◌, ◌≢◌, Bool, true, not, List, [], ◌∷◌, ◌++◌, ◌⊎◌}
use Rattle.std.specs.FinSet.{FinSet}
use Rattle.std.specs.List.{filter, list_any, AllByRecursion}
use Rattle.gtid_text.specs.declared.Gtid.{Gtid}
use Rattle.gtid_text.specs.Gtids.{gtid_cmp, same_gtid}
use Rattle.rows.specs.declared.schema.Table.{Table}
use Rattle.rows.specs.Apply.{Rows}
use Rattle.rows.specs.Conflicts.{conflicts}
use Rattle.history.specs.World.{OrderedWorld, Entry, IsIn, Precedes}

abbrev pub History : Type 0
History = List Entry

-- Two histories agree on what conflicts. A GTID has one transaction; what comes before a transaction in the first and
-- conflicts with it comes before it in the second too, if that has it; and of two that conflict, one in each, one of
-- the histories has both.
pub record IsConsistent (schema : List Table) (a b : History) : Type 0 where
  pub same : (e f : Entry) → IsIn e a → IsIn f b → e.0 ≡ f.0 → e ≡ f
  pub ordered : (e f : Entry) → Precedes a e f → conflicts schema e.1 f.1 ≡ true → IsIn f b → Precedes b e f
  pub joint : (e f : Entry) → IsIn e a → IsIn f b → e.0 ≢ f.0 → conflicts schema e.1 f.1 ≡ true → IsIn e b ⊎ IsIn f a

-- each two of them, in either order, and each with itself
abbrev pub AreConsistent : List Table → List History → Type 0
AreConsistent schema hs = AllByRecursion (λ (a : History). AllByRecursion (λ (b : History). IsConsistent schema a b) hs) hs

-- ---- one order of them all

abbrev pub has : List Entry → Gtid → Bool
has es g = list_any (λ (e : Entry). same_gtid g e.0) es

-- what a history has beyond a list
abbrev pub beyond : List Entry → History → List Entry
beyond es h = filter (λ e. not (has es e.0)) h

-- a list, and then what each of the histories has beyond the earlier ones
abbrev pub join_histories : List Entry → List History → List Entry
join_histories es [] = es
join_histories es (h ∷ hs) = join_histories (es ++ beyond es h) hs

abbrev pub order_of : List History → List Entry
order_of hs = join_histories [] hs

abbrev pub world_of_histories : List Table → FinSet gtid_cmp → Rows → List History → OrderedWorld
world_of_histories schema opened rows hs = record { schema = schema; opening_set = opened; opening_rows = rows; order = order_of hs }

-- the history is one of these
abbrev pub IsAmong : History → List History → Type 0
IsAmong h [] = ⊥
IsAmong h (x ∷ xs) = (x ≡ h) ⊎ IsAmong h xs

-- ---- what can be wrong with two histories

-- both have the pair, in different orders
pub record IsReordered (schema : List Table) (a b : History) (e f : Entry) : Type 0 where
  pub shares : conflicts schema e.1 f.1 ≡ true
  pub one_way : Precedes a e f
  pub other_way : Precedes b f e

-- the first has e before f, and the second has f without e
pub record LeavesOut (schema : List Table) (a b : History) (e f : Entry) : Type 0 where
  pub shares : conflicts schema e.1 f.1 ≡ true
  pub before : Precedes a e f
  pub stands : IsIn f b
  pub absent : ¬ (IsIn e b)

-- the first has e without f, and the second has f without e
pub record AreConcurrent (schema : List Table) (a b : History) (e f : Entry) : Type 0 where
  pub shares : conflicts schema e.1 f.1 ≡ true
  pub first : IsIn e a
  pub second : IsIn f b
  pub first_alone : ¬ (IsIn f a)
  pub second_alone : ¬ (IsIn e b)
