-- Transactions that were committed in one order, and the rows that a set of them denotes.
use Rattle.std.specs.Prelude.{◌≡◌, ◌≢◌, Bool, true, false, if◌then◌else◌, List, [], ◌∷◌, ◌⊎◌, Option, Some, None, IsSome, Result, Ok, IsOk}
use Rattle.std.specs.FinSet.{FinSet, contains}
use Rattle.std.specs.List.{filter, AllByRecursion}
use Rattle.gtid_text.specs.declared.Gtid.{Gtid}
use Rattle.gtid_text.specs.Gtids.{gtid_cmp, same_gtid}
use Rattle.rows.specs.declared.change.Transaction.{Transaction}
use Rattle.rows.specs.declared.change.RowFault.{RowFault}
use Rattle.rows.specs.declared.schema.Table.{Table}
use Rattle.rows.specs.Apply.{Rows, ◌>>=◌, apply}
use Rattle.rows.specs.Conflicts.{conflicts}

-- a transaction under its GTID
abbrev pub Entry : Type 0
Entry = Gtid × Transaction

-- The tables, the GTIDs that were executed from the start with the rows that they left, and what was committed since, in
-- one order. The order matters for transactions that conflict, and for no others.
pub record OrderedWorld : Type 0 where
  pub schema : List Table
  pub opening_set : FinSet gtid_cmp
  pub opening_rows : Rows
  pub order : List Entry

abbrev pub is_opened : OrderedWorld → Gtid → Bool
is_opened world g = contains world.opening_set g

-- the first transaction of a list that has this GTID
abbrev pub find : Gtid → List Entry → Option Transaction
find g [] = None
find g (e ∷ es) = if same_gtid g e.0 then Some e.1 else find g es

-- the transaction that was committed under a GTID
abbrev pub content : OrderedWorld → Gtid → Option Transaction
content world g = find g world.order

-- the entry is in the list
abbrev pub IsIn : Entry → List Entry → Type 0
IsIn e [] = ⊥
IsIn e (x ∷ es) = (x ≡ e) ⊎ IsIn e es

-- both are in the list, the first before the second
abbrev pub Precedes : List Entry → Entry → Entry → Type 0
Precedes [] e f = ⊥
Precedes (x ∷ es) e f = ((x ≡ e) × IsIn f es) ⊎ Precedes es e f

-- no GTID occurs twice
abbrev pub AreDistinct : List Entry → Type 0
AreDistinct [] = Unit {0}
AreDistinct (e ∷ es) = AllByRecursion (λ (f : Entry). e.0 ≢ f.0) es × AreDistinct es

-- what was committed of a set, in the world's order
abbrev pub entries_in : OrderedWorld → (Gtid → Bool) → List Entry
entries_in world S = filter (λ e. S e.0) world.order

-- the rows after these transactions, one after another
abbrev pub apply_all : List Table → List Entry → Rows → Result Rows RowFault
apply_all schema [] rows = Ok rows
apply_all schema (e ∷ es) rows = apply schema e.1 rows >>= apply_all schema es

-- the rows that a set denotes
abbrev pub rows_of : OrderedWorld → (Gtid → Bool) → Result Rows RowFault
rows_of world S = apply_all world.schema (entries_in world S) world.opening_rows

-- What is required of the GTIDs: each occurs once, and what was executed from the start has no content here.
pub record AreGtidsSound (world : OrderedWorld) : Type 0 where
  pub outside : (g : Gtid) → IsSome (content world g) → is_opened world g ≡ false
  pub distinct : AreDistinct world.order

-- All that was committed applies to the opening rows, in the world's order. Nothing is required of sources, nor of keys.
pub record IsSound (world : OrderedWorld) : Type 0 where
  pub gtids : AreGtidsSound world
  pub applies : IsOk (apply_all world.schema world.order world.opening_rows)

-- The set has what was executed from the start, and beside it what was committed. It is downward closed in the conflict order: if a
-- transaction is in it, so is each earlier one that conflicts with it.
pub record IsClosed (world : OrderedWorld) (S : Gtid → Bool) : Type 0 where
  pub opened : (g : Gtid) → is_opened world g ≡ true → S g ≡ true
  pub known : (g : Gtid) → S g ≡ true → (is_opened world g ≡ true) ⊎ IsSome (content world g)
  pub earlier : (e f : Entry) → Precedes world.order e f → conflicts world.schema e.1 f.1 ≡ true → S f.0 ≡ true → S e.0 ≡ true
