-- The laws of histories that several servers committed.
use Rattle.std.specs.Prelude.{◌≡◌, ◌↔◌, ◌⊎◌, ◌++◌, Bool, true, false, List, Some, Ok, IsOk}
use Rattle.std.specs.FinSet.{FinSet, contains}
use Rattle.std.specs.List.{AllByRecursion}
use Rattle.gtid_text.specs.declared.Gtid.{Gtid}
use Rattle.gtid_text.specs.Gtids.{gtid_cmp}
use Rattle.rows.specs.declared.schema.Table.{Table}
use Rattle.rows.specs.Apply.{Rows}
use Rattle.rows.specs.Conflicts.{conflicts}
use Rattle.history.specs.World.{OrderedWorld, Entry, content, is_opened, IsIn, Precedes, AreDistinct, apply_all, rows_of, AreGtidsSound, IsSound, IsClosed}
use Rattle.history.specs.Commits.{with_each, IsCommitOrder}
use Rattle.history.specs.Extension.{gtids_of, IsLinearExtension}
use Rattle.history.specs.Histories.{History, IsConsistent, AreConsistent, IsAmong, beyond, world_of_histories, IsReordered, LeavesOut, AreConcurrent}

-- ---- one history and one order

-- A commit order is a linear extension of the conflict order, and the other way round.
abbrev pub ExtensionsAreCommitOrders : Type 0
ExtensionsAreCommitOrders = (world : OrderedWorld) (es : List Entry) → AreGtidsSound world
    → IsLinearExtension world es ↔ (IsCommitOrder world (is_opened world) (gtids_of es) × AllByRecursion (λ (e : Entry). content world e.0 ≡ Some e.1) es)

-- A history that is a linear extension applies, none refused, and ends in the rows that its set denotes.
abbrev pub ExtensionsMerge : Type 0
ExtensionsMerge = (world : OrderedWorld) (es : List Entry) → IsSound world → IsLinearExtension world es
    → (rows : Rows) × (apply_all world.schema es world.opening_rows ≡ Ok rows) × (rows_of world (with_each (is_opened world) (gtids_of es)) ≡ Ok rows)

-- the same opening, and the same transactions, in orders that agree on what conflicts
pub record AgreeOnConflicts (v w : OrderedWorld) : Type 0 where
  pub schema : v.schema ≡ w.schema
  pub opening_set : v.opening_set ≡ w.opening_set
  pub opening_rows : v.opening_rows ≡ w.opening_rows
  pub there : (e : Entry) → IsIn e v.order → IsIn e w.order
  pub back : (e : Entry) → IsIn e w.order → IsIn e v.order
  pub ordered : (e f : Entry) → Precedes v.order e f → conflicts v.schema e.1 f.1 ≡ true → Precedes w.order e f

-- Which linear extension of the conflict order a world has does not matter to the rows of a closed set.
abbrev pub OrdersAgree : Type 0
OrdersAgree = (v w : OrderedWorld) (S : Gtid → Bool) → IsSound v → AreDistinct w.order → AgreeOnConflicts v w → IsClosed v S
    → IsOk (rows_of v S) × (rows_of w S ≡ rows_of v S)

-- ---- several histories

-- each GTID occurs once in a history, and was not executed from the start
abbrev pub AreNew : FinSet gtid_cmp → History → Type 0
AreNew opened h = AreDistinct h × ((e : Entry) → IsIn e h → contains opened e.0 ≡ false)

-- What one order of several histories is.
pub record IsOrderOf (world : OrderedWorld) (hs : List History) : Type 0 where
  pub gtids : AreGtidsSound world
  -- each history is a linear extension
  pub extended : AllByRecursion (IsLinearExtension world) hs
  -- what conflicts is in the order in which each history has it, so there is no cycle
  pub kept : AllByRecursion (λ (h : History). (e f : Entry) → Precedes h e f → conflicts world.schema e.1 f.1 ≡ true → Precedes world.order e f) hs
  -- and it has no other transactions
  pub from_them : (e : Entry) → IsIn e world.order → (h : History) × IsAmong h hs × IsIn e h

-- Histories that agree on what conflicts have such an order: each in turn, what it has beyond the earlier ones.
abbrev pub ConsistentHaveAnOrder : Type 0
ConsistentHaveAnOrder = (schema : List Table) (opened : FinSet gtid_cmp) (rows : Rows) (hs : List History)
    → AllByRecursion (AreNew opened) hs → AreConsistent schema hs → IsOrderOf (world_of_histories schema opened rows hs) hs

-- If there is any order that the histories extend, they agree on what conflicts.
abbrev pub ExtendedAreConsistent : Type 0
ExtendedAreConsistent = (world : OrderedWorld) (hs : List History) → AreGtidsSound world
    → AllByRecursion (IsLinearExtension world) hs → AreConsistent world.schema hs

-- Two histories in which a GTID has one transaction are consistent if no pair is reordered, none is left out, and none is concurrent.
pub record HaveNoFault (schema : List Table) (a b : History) : Type 0 where
  pub same : (e f : Entry) → IsIn e a → IsIn f b → e.0 ≡ f.0 → e ≡ f
  pub none_reordered : (e f : Entry) → ¬ (IsReordered schema a b e f)
  pub none_left_out : (e f : Entry) → ¬ (LeavesOut schema a b e f)
  pub none_concurrent : (e f : Entry) → ¬ (AreConcurrent schema a b e f)

abbrev pub FaultlessAreConsistent : Type 0
FaultlessAreConsistent = (schema : List Table) (a b : History) → AreDistinct a → AreDistinct b
    → HaveNoFault schema a b ↔ IsConsistent schema a b

-- ---- what the audit names

-- The pair has one of these faults, in the histories a and b.
abbrev pub IsFault : List Table → History → History → Entry → Entry → Type 0
IsFault schema a b g e = IsReordered schema a b g e ⊎ (LeavesOut schema a b g e ⊎ (LeavesOut schema b a e g ⊎ AreConcurrent schema a b g e))

-- g comes before e in the joined list and conflicts with it, and a history has e without g before it. Then the pair is at
-- fault between that history and the one that brought g first: it suffices to look into these two.
abbrev pub FaultIsReal : Type 0
FaultIsReal = (schema : List Table) (earlier : List Entry) (a h : History) (later : List Entry) (g e : Entry)
    → AreDistinct ((earlier ++ beyond earlier a) ++ later) → AreDistinct h
    → ((x y : Entry) → IsIn x earlier → IsIn y a → x.0 ≡ y.0 → x ≡ y)
    → ((x y : Entry) → IsIn x a → IsIn y h → x.0 ≡ y.0 → x ≡ y)
    → IsIn g (beyond earlier a) → IsIn e h → Precedes ((earlier ++ beyond earlier a) ++ later) g e → conflicts schema g.1 e.1 ≡ true
    → ¬ (Precedes h g e) → IsFault schema a h g e
