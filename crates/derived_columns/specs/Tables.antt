-- Hidden columns by their tables.
use Rattle.std.specs.Prelude.{◌≡◌, ℕ, List, [], ◌∷◌, ◌++◌, Option}
use Rattle.std.specs.Option.{option_map_or}
use Rattle.std.specs.Global.{Vec}
use Rattle.std.specs.Ordering.{nat_cmp, eq_by_cmp}
use Rattle.std.specs.Cmp.Lexicographic.{slice_cmp}
use Rattle.indexmap.specs.IndexMap.{IndexMap, get}
use Rattle.derived_columns.specs.declared.column.DerivedColumn.{DerivedColumn}
use Rattle.derived_columns.specs.Columns.{table_columns}

-- columns by the name of their table
abbrev pub Tables : Type 0
Tables = IndexMap (List ℕ) (Vec DerivedColumn) ℕ

-- what is there under a name
abbrev pub lists_of : Tables → List ℕ → Option (Vec DerivedColumn)
lists_of tables table = get (eq_by_cmp (slice_cmp nat_cmp)) tables table

-- the columns that a table has there
abbrev pub listed : Tables → List ℕ → List DerivedColumn
listed tables table = option_map_or (λ columns. columns.items) (lists_of tables table) []

-- each table has its columns there
abbrev pub AreByTable : List DerivedColumn → Tables → Type 0
AreByTable columns tables = (table : List ℕ) → listed tables table ≡ table_columns columns table

-- each table has there what it had, and behind it the column, if it is one of the table
abbrev pub IsPut : Tables → DerivedColumn → Tables → Type 0
IsPut old column new = (table : List ℕ) → listed new table ≡ listed old table ++ table_columns (column ∷ []) table
