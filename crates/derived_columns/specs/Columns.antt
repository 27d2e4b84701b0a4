-- What the hidden columns of tables hold.
use Rattle.std.specs.Prelude.{ℕ, List}
use Rattle.std.specs.List.{filter}
use Rattle.std.specs.Str.{bytes_eq}
use Rattle.derived_columns.specs.declared.column.DerivedColumn.{DerivedColumn}
use Rattle.derived_columns.specs.declared.column.DerivedColumn.TheVariants.{Part, Row}

-- the table that has a hidden column
abbrev pub table_with : DerivedColumn → List ℕ
table_with (Part part) = part.table
table_with (Row table) = table

-- those of a table, in their order
abbrev pub table_columns : List DerivedColumn → List ℕ → List DerivedColumn
table_columns columns table = filter (λ c. bytes_eq (table_with c) table) columns
