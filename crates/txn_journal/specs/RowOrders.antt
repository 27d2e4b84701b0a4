-- Two texts of one bundle.
use Rattle.std.specs.Prelude.{◌≡◌, ◌⊎◌, ℕ, List, [], ◌∷◌}
use Rattle.rows.specs.Apply.{Rows}
use Rattle.rows.specs.Listing.{rows_listed}
use Rattle.rows.specs.declared.change.TableRow.{TableRow}
use Rattle.rows.specs.declared.limits.Limits.{Limits}
use Rattle.rows.specs.declared.schema.Table.{Table}
use Rattle.txn_journal.specs.BundleStates.{BundleValue}
use Rattle.txn_journal.specs.BundleText.{bundle_spelling, AreOpening, WritesBundleAs}
use Rattle.txn_journal.specs.declared.lines.Version.{Version}

-- the row is one of these
abbrev pub IsOneOf : List TableRow → TableRow → Type 0
IsOneOf [] r = ⊥
IsOneOf (x ∷ xs) r = (x ≡ r) ⊎ IsOneOf xs r

-- no row occurs twice
abbrev pub AreOnce : List TableRow → Type 0
AreOnce [] = Unit {0}
AreOnce (x ∷ xs) = (IsOneOf xs x → ⊥) × AreOnce xs

-- both have the same rows, each once
pub record AreReordered (old new : List TableRow) : Type 0 where
  pub old_once : AreOnce old
  pub new_once : AreOnce new
  pub kept : (r : TableRow) → IsOneOf old r → IsOneOf new r
  pub no_others : (r : TableRow) → IsOneOf new r → IsOneOf old r

-- both are texts of the bundle by one version, which differ in the order of their `row` lines at most
pub record DifferInOrder (version : Version) (b : BundleValue) (x y : List ℕ) : Type 0 where
  pub old : List TableRow
  pub new : List TableRow
  pub one : x ≡ bundle_spelling version old b
  pub other : y ≡ bundle_spelling version new b
  pub reordered : AreReordered old new

-- Opening rows give the same rows, put in listed order.
abbrev pub OpensInListedOrder : Type 0
OpensInListedOrder = (limits : Limits) (tables : List Table) (rs : List TableRow) (rows : Rows) → AreOpening limits tables rs rows → AreOpening limits tables (rows_listed rows) rows

-- Two texts of a bundle by one version differ in the order of its `row` lines at most.
abbrev pub TextsDifferInOrder : Type 0
TextsDifferInOrder = (v : Version) (b : BundleValue) (x y : List ℕ) → WritesBundleAs v x b → WritesBundleAs v y b → DifferInOrder v b x y
