-- What hidden values are for.
use Rattle.std.specs.Prelude.{◌≡◌, ◌⊎◌, ◌↔◌, ℕ, ◌+◌, List, length, take, map, slice_get, Some, None, Ok}
use Rattle.collation_weights.specs.Weights.{weights}
use Rattle.row_images.specs.Images.{AreValues}
use Rattle.row_images.specs.declared.value.Value.{Value}
use Rattle.row_images.specs.declared.value.Value.TheVariants.{Bytes}
use Rattle.journal.specs.declared.Entry.{Entry}
use Rattle.derived_columns.specs.declared.column.KeyComparison.{KeyComparison}
use Rattle.derived_columns.specs.declared.column.KeyComparison.TheVariants.{Text, FirstCharacters, FirstBytes, FixedCharacters, FixedBytes, Float}
use Rattle.derived_columns.specs.declared.column.DerivedColumn.{DerivedColumn}
use Rattle.derived_columns.specs.Columns.{table_columns}
use Rattle.derived_columns.specs.Compared.{first_weights, fixed_weights, fixed_bytes, float_bytes, zero_float, negative_zero_float, zero_double, negative_zero_double}
use Rattle.derived_columns.specs.Images.{hidden_value, hidden_at, row_value, derived_image}
use Rattle.derived_columns.specs.Entries.{derived_entries}

-- ---- what is one key to a server

-- one of two is this, and the other that
abbrev pub AreBoth : List ℕ → List ℕ → List ℕ → List ℕ → Type 0
AreBoth this that a b = ((a ≡ this) × (b ≡ that)) ⊎ ((a ≡ that) × (b ≡ this))

-- two values of FLOAT, or of DOUBLE, are equal: their bytes are, or one is 0 and the other -0
abbrev pub AreEqualFloats : List ℕ → List ℕ → Type 0
AreEqualFloats a b = (a ≡ b) ⊎ (AreBoth zero_float negative_zero_float a b ⊎ AreBoth zero_double negative_zero_double a b)

-- neither is of FLOAT or DOUBLE
abbrev pub AreNoFloats : List ℕ → List ℕ → Type 0
AreNoFloats a b = (float_bytes a ≡ None) × (float_bytes b ≡ None)

-- The two are one value of a key: the texts, or their first characters, weigh the same; or their first bytes are the same; or as numbers they
-- are equal. Where neither can be a value of such a key that is so too.
abbrev pub IsOneKey : KeyComparison → List ℕ → List ℕ → Type 0
IsOneKey (Text collation) a b = weights collation a ≡ weights collation b
IsOneKey (FirstCharacters collation count) a b = first_weights collation count a ≡ first_weights collation count b
IsOneKey (FirstBytes count) a b = take count a ≡ take count b
IsOneKey (FixedCharacters collation count) a b = fixed_weights collation count a ≡ fixed_weights collation count b
IsOneKey (FixedBytes count) a b = fixed_bytes count a ≡ fixed_bytes count b
IsOneKey Float a b = AreEqualFloats a b ⊎ AreNoFloats a b

-- two values have one hidden value exactly if they are one value of the key
abbrev pub HiddenValuesTellKeys : Type 0
HiddenValuesTellKeys = (comparison : KeyComparison) (a b : List ℕ)
    → (hidden_value comparison (Bytes a) ≡ hidden_value comparison (Bytes b)) ↔ IsOneKey comparison a b

-- two images have one text exactly if they are equal
abbrev pub HiddenValuesTellRows : Type 0
HiddenValuesTellRows = (a b : List Value) → AreValues a → AreValues b → (row_value a ≡ row_value b) ↔ (a ≡ b)

-- ---- what is derived

-- what is derived begins with the image, and what the table's nth hidden column holds of it is in the nth place behind
pub record IsImageWithHidden (columns : List DerivedColumn) (table : List ℕ) (image derived : List Value) : Type 0 where
  pub begins : take (length image) derived ≡ image
  pub behind : (n : ℕ) (c : DerivedColumn) → slice_get (table_columns columns table) n ≡ Some c → slice_get derived (length image + n) ≡ hidden_at image c
  pub len : length derived ≡ length image + length (table_columns columns table)

abbrev pub HiddenColumnsAreBehind : Type 0
HiddenColumnsAreBehind = (columns : List DerivedColumn) (table : List ℕ) (image derived : List Value)
    → derived_image columns table image ≡ Ok derived → IsImageWithHidden columns table image derived

-- the GTIDs stay, in their order
abbrev pub GtidsStay : Type 0
GtidsStay = (columns : List DerivedColumn) (entries derived : List Entry) → derived_entries columns entries ≡ Ok derived → map (λ e. e.gtid) derived ≡ map (λ e. e.gtid) entries
