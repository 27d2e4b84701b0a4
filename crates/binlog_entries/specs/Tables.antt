-- Tables that a statement maps.
use Rattle.std.specs.Prelude.{ℕ, slice_get, List, [], ◌∷◌, ◌++◌, Option, Some, None, if◌then◌else◌}
use Rattle.std.specs.Str.{bytes_eq}
use Rattle.binlog_text.specs.declared.types.ColumnType.{ColumnType}

-- a table by its name, with the types of its columns in order
pub record Table : Type 0 where
  pub name : List ℕ
  pub columns : List ColumnType

-- the first table of this name
abbrev pub find_table : List ℕ → List Table → Option Table
find_table name [] = None
find_table name (t ∷ ts) = if bytes_eq t.name name then Some t else find_table name ts

-- the type of a column, counted from 0
abbrev pub type_in : Option Table → ℕ → Option ColumnType
type_in None place = None
type_in (Some t) place = slice_get t.columns place

abbrev pub type_at : Option (List ℕ) → List Table → ℕ → Option ColumnType
type_at None tables place = None
type_at (Some table) tables place = type_in (find_table table tables) place

-- a table that is mapped joins the others
abbrev pub with_mapping : List Table → Option Table → List Table
with_mapping tables None = tables
with_mapping tables (Some t) = tables ++ t ∷ []
