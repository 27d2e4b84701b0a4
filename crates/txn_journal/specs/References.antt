-- Which columns of a table refer to a key of another: lines of foreign keys.
use Rattle.std.specs.Prelude.{◌≡◌, ℕ, ◌+◌, ◌≤◌, ◌==◌, Bool, true, false, ◌&&◌, List, [], ◌∷◌, ◌++◌, length, Option, Some, None, Result, Ok, Err, codes, if◌then◌else◌, decimal, slice_get}
use Rattle.std.specs.List.{AllByRecursion}
use Rattle.std.specs.Str.{bytes_eq}
use Rattle.rows.specs.declared.limits.Limits.{Limits}
use Rattle.rows.specs.declared.schema.Table.{Table}
use Rattle.rows.specs.Keys.{find_table}
use Rattle.rows.specs.Tables.{is_column_list, are_below}
use Rattle.row_images.specs.Words.{is_count, count_of}
use Rattle.row_images.specs.Parts.{parts_of, joined_by}
use Rattle.txn_journal.specs.Versions.{is_named, IsWide}
use Rattle.txn_journal.specs.Words.{name_of}
use Rattle.txn_journal.specs.Lines.{◌>>=◌, some_or_body}
use Rattle.txn_journal.specs.Splits.{is_columns_text, columns_text}
use Rattle.txn_journal.specs.Shapes.{column_below, columns_in}
use Rattle.txn_journal.specs.declared.references.Reference.{Reference}
use Rattle.txn_journal.specs.declared.fault.Cause.{Cause}
use Rattle.txn_journal.specs.declared.fault.Cause.TheVariants as causes

-- ---- as text

-- a child, its columns, a parent, the number of one of its keys, and whether the server itself changes children
pub record ReferenceShape : Type 0 where
  pub child : List ℕ
  pub columns : List ℕ
  pub parent : List ℕ
  pub key : List ℕ
  pub cascade : Bool

abbrev pub cascade_words : Bool → List (List ℕ)
cascade_words true = (codes "cascade") ∷ []
cascade_words false = []

abbrev pub reference_words : ReferenceShape → List (List ℕ)
reference_words s = s.child ∷ s.columns ∷ s.parent ∷ s.key ∷ cascade_words s.cascade

abbrev pub reference_text : ReferenceShape → List ℕ
reference_text s = joined_by 32 (reference_words s)

pub record FitsReference (limits : Limits) (s : ReferenceShape) : Type 0 where
  pub child : is_named limits s.child ≡ true
  pub columns : is_columns_text s.columns ≡ true
  pub parent : is_named limits s.parent ≡ true
  pub key : is_count s.key ≡ true

-- ---- as it is read

abbrev pub name_in : Limits → List ℕ → Result (List ℕ) Cause
name_in limits word = some_or_body (name_of limits word)

abbrev pub cascade_in : List (List ℕ) → Result Bool Cause
cascade_in [] = Ok false
cascade_in (word ∷ []) = if bytes_eq word (codes "cascade") then Ok true else Err causes.Body
cascade_in _ = Err causes.Body

abbrev pub reference_with : List ℕ → List ℕ → List ℕ → List ℕ → List (List ℕ) → Result ReferenceShape Cause
reference_with child columns parent key words =
    if is_columns_text columns && is_count key
    then (cascade_in words >>= λ cascade. Ok (record { child = child; columns = columns; parent = parent; key = key; cascade = cascade }))
    else Err causes.Body

unfoldable pub reference_of : Limits → List (List ℕ) → Result ReferenceShape Cause
reference_of limits (child ∷ columns ∷ parent ∷ key ∷ words) = do
  named ← name_in limits child
  referred ← name_in limits parent
  reference_with named columns referred key words
reference_of limits _ = Err causes.Body

unfoldable pub reference_in : Limits → List ℕ → Result ReferenceShape Cause
reference_in limits text = reference_of limits (parts_of 32 text)

-- the rest of a line
abbrev pub reference_behind : Limits → Option (List ℕ) → Result ReferenceShape Cause
reference_behind limits None = Err causes.Body
reference_behind limits (Some text) = reference_in limits text

-- ---- the reference of a shape

-- the columns of each key, the primary key first
abbrev pub keys_of_table : Table → List (List ℕ)
keys_of_table table = table.primary ∷ table.uniques

abbrev pub some_or_schema : {A : Type 0} → Option A → Result A Cause
some_or_schema None = Err causes.Schema
some_or_schema (Some x) = Ok x

abbrev pub table_named : List Table → List ℕ → Result Table Cause
table_named tables name = some_or_schema (find_table name tables)

-- the number of a key, and how many columns it has
abbrev pub with_width : ℕ → Option (List ℕ) → Result (ℕ × ℕ) Cause
with_width number None = Err causes.Schema
with_width number (Some columns) = Ok (number, length columns)

abbrev pub key_numbered : List (List ℕ) → Option ℕ → Result (ℕ × ℕ) Cause
key_numbered keys None = Err causes.Schema
key_numbered keys (Some number) = with_width number (slice_get keys number)

-- as many columns as the key has
abbrev pub with_columns : ReferenceShape → List ℕ → ℕ × ℕ → Result Reference Cause
with_columns s columns key =
    if length columns == key.1
    then Ok (record { child = s.child; columns = columns; parent = s.parent; key = key.0; cascade = s.cascade })
    else Err causes.Schema

unfoldable pub reference_to : List Table → ReferenceShape → Result Reference Cause
reference_to tables s = do
  child ← table_named tables s.child
  parent ← table_named tables s.parent
  columns ← columns_in child.columns s.columns
  key ← key_numbered (keys_of_table parent) (count_of s.key)
  with_columns s columns key

-- the shape of a reference's line
abbrev pub reference_shape : Reference → ReferenceShape
reference_shape r = record { child = r.child; columns = columns_text r.columns; parent = r.parent; key = decimal r.key; cascade = r.cascade }

-- ---- what may refer

-- Columns of a table, as many as the key of a table has to which they refer. Texts with narrow limits have none.
pub record IsReference (limits : Limits) (tables : List Table) (r : Reference) : Type 0 where
  pub wide : IsWide limits
  pub child_name : is_named limits r.child ≡ true
  pub parent_name : is_named limits r.parent ≡ true
  pub child : Table
  pub parent : Table
  pub key : List ℕ
  pub has_child : find_table r.child tables ≡ Some child
  pub has_parent : find_table r.parent tables ≡ Some parent
  pub columns : is_column_list r.columns ≡ true
  pub below : are_below child.columns r.columns ≡ true
  pub has_key : slice_get (keys_of_table parent) r.key ≡ Some key
  pub as_many : length r.columns ≡ length key

abbrev pub most_references : ℕ
most_references = 65536

pub record AreReferences (limits : Limits) (tables : List Table) (rs : List Reference) : Type 0 where
  pub few : length rs ≤ most_references
  pub each : AllByRecursion (IsReference limits tables) rs
