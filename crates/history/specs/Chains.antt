-- The transactions that touch one key, and what an audit by them finds.
use Rattle.std.specs.Prelude.{◌≡◌, ◌↔◌, List, ◌++◌}
use Rattle.std.specs.FinSet.{FinSet}
use Rattle.std.specs.List.{filter, AllByRecursion}
use Rattle.gtid_text.specs.Gtids.{gtid_cmp}
use Rattle.rows.specs.declared.change.Key.{Key}
use Rattle.rows.specs.declared.schema.Table.{Table}
use Rattle.rows.specs.Apply.{Rows}
use Rattle.rows.specs.WriteSet.{touches}
use Rattle.history.specs.World.{OrderedWorld, Entry, IsIn, AreDistinct, AreGtidsSound}
use Rattle.history.specs.Extension.{IsLinearExtension}
use Rattle.history.specs.Histories.{History, IsAmong, order_of}
use Rattle.history.specs.HistoryLaws.{AreNew}

-- the chain of a key: those that touch it, in their order
abbrev pub chain : List Table → Key → List Entry → List Entry
chain schema k es = filter (λ e. touches schema e.1 k) es

abbrev pub IsFront : List Entry → List Entry → Type 0
IsFront xs ys = (zs : List Entry) × (xs ++ zs ≡ ys)

-- A history is a linear extension of a world's order if each of its chains is a prefix of the world's chain.
abbrev pub ChainsDecide : Type 0
ChainsDecide = (world : OrderedWorld) (h : History) → AreDistinct world.order → AreDistinct h → ((e : Entry) → IsIn e h → IsIn e world.order)
    → IsLinearExtension world h ↔ ((k : Key) → IsFront (chain world.schema k h) (chain world.schema k world.order))

-- a GTID has one transaction in all of them
abbrev pub HaveOneContent : List History → Type 0
HaveOneContent hs = (a b : History) → IsAmong a hs → IsAmong b hs → (e f : Entry) → IsIn e a → IsIn f b → e.0 ≡ f.0 → e ≡ f

-- some order that all of them extend
abbrev pub HaveSomeOrder : List Table → FinSet gtid_cmp → List History → Type 0
HaveSomeOrder schema opened hs = (world : OrderedWorld) × (world.schema ≡ schema) × (world.opening_set ≡ opened) × AreGtidsSound world × AllByRecursion (IsLinearExtension world) hs

-- The audit joins the histories, each in turn, and compares the chains of each history with those of the joined list. That is exact: it
-- finds nothing if and only if there is any order that all of the histories extend.
abbrev pub ChainsAreExact : Type 0
ChainsAreExact = (schema : List Table) (opened : FinSet gtid_cmp) (rows : Rows) (hs : List History) → AllByRecursion (AreNew opened) hs → HaveOneContent hs
    → ((h : History) → IsAmong h hs → (k : Key) → IsFront (chain schema k h) (chain schema k (order_of hs))) ↔ HaveSomeOrder schema opened hs
