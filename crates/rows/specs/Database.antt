-- A schema, and the rows of its tables.
use Rattle.std.specs.Prelude.{◌≡◌, ℕ, Bool, true, false, List, [], ◌∷◌, Some, unwrap_or, refl}
use Rattle.std.specs.FinMap.{get}
use Rattle.std.specs.Coded.{Coded, code_by, coded×, coded_ℕ, coded_bool, coded_list}
use Rattle.rows.specs.declared.change.Change.TheVariants.{Insert}
use Rattle.rows.specs.declared.change.Key.{Key}
use Rattle.rows.specs.declared.change.Transaction.{Transaction}
use Rattle.rows.specs.declared.limits.Limits.{Limits}
use Rattle.rows.specs.declared.limits.Limits.TheVariants.{Narrow, Wide}
use Rattle.rows.specs.declared.schema.Table.{Table}
use Rattle.row_images.specs.declared.value.Value.{Value}
use Rattle.rows.specs.Apply.{Rows}
use Rattle.rows.specs.Carriers.{AreCarriers}
use Rattle.rows.specs.Coding.{rows_code}
use Rattle.rows.specs.Fits.{IsRowOf}
use Rattle.rows.specs.Keys.{carried_keys}
use Rattle.rows.specs.WriteSet.{is_among, left_by}

pub record Database : Type 0 where
  pub schema : List Table
  pub rows : Rows

-- the invariant of the rows of a schema
pub record AreRowsOf (schema : List Table) (rows : Rows) : Type 0 where
  -- Under each key is a row that carries it, and each row is stored under every key that it carries.
  pub carriers : AreCarriers schema rows
  -- Each of them is a row of its key's table.
  pub fitting : (k : Key) (row : List Value) → get rows k ≡ Some row → IsRowOf schema k.table row

-- Rows that carry one key are one row.
abbrev pub NoTwoCarry : List Table → Rows → Type 0
NoTwoCarry schema rows =
    (p q k : Key) (a b : List Value) → get rows p ≡ Some a → get rows q ≡ Some b
    → is_among (carried_keys schema p.table a) k ≡ true → is_among (carried_keys schema q.table b) k ≡ true → a ≡ b

-- Under each key is the after image of the last change that touches it, if that carries the key; else no row; and where no change touches
-- it, what was there.
abbrev pub LeavesImages : List Table → Transaction → Rows → Rows → Type 0
LeavesImages schema txn old new = (k : Key) → get new k ≡ unwrap_or (left_by schema txn k) (get old k)

abbrev is_wide : Limits → Bool
is_wide Narrow = false
is_wide Wide = true

abbrev limits_by : Bool → Limits
limits_by false = Narrow
limits_by true = Wide

pub limits_back : (limits : Limits) → limits_by (is_wide limits) ≡ limits
limits_back Narrow = λ _. Narrow
limits_back Wide = λ _. Wide

abbrev limits_code : Coded Limits
limits_code = code_by Bool coded_bool is_wide limits_by limits_back

abbrev pub table_code : Coded Table
table_code =
    code_by (List ℕ × (ℕ × (List ℕ × (List (List ℕ) × (ℕ × Limits)))))
    (coded× (coded_list coded_ℕ) (coded× coded_ℕ (coded× (coded_list coded_ℕ) (coded× (coded_list (coded_list coded_ℕ)) (coded× coded_ℕ limits_code)))))
    (λ t. (t.name, (t.columns, (t.primary, (t.uniques, (t.hidden, t.limits))))))
    (λ p. record { name = p.0; columns = p.1.0; primary = p.1.1.0; uniques = p.1.1.1.0; hidden = p.1.1.1.1.0; limits = p.1.1.1.1.1 })
    (λ _. refl)

abbrev pub database_code : Coded Database
database_code = code_by (List Table × Rows) (coded× (coded_list table_code) rows_code) (λ d. (d.schema, d.rows)) (λ p. record { schema = p.0; rows = p.1 }) (λ _. refl)

-- the transaction that puts one row into a table
abbrev pub opening : List ℕ → List Value → Transaction
opening table row = record { changes = Insert table row ∷ [] }
