-- Which tables may be together in a schema.
use Rattle.std.specs.Prelude.{◌≡◌, ◌≤◌, ℕ, Bool, true, not, ◌&&◌, ◌||◌, ◌==◌, nat_le, nat_lt, if◌then◌else◌, List, [], ◌∷◌, length, map, Option, Some, None, is_some}
use Rattle.std.specs.List.{list_any, list_all}
use Rattle.rows.specs.declared.schema.Table.{Table}
use Rattle.rows.specs.declared.schema.TableFault.{TableFault}
use Rattle.rows.specs.declared.schema.TableFault.TheVariants.{Body, Limit, Schema}
use Rattle.rows.specs.Keys.{find_table}
use Rattle.rows.specs.Limits.{most_tables, most_columns, most_uniques}

-- no column occurs twice
abbrev pub are_distinct : List ℕ → Bool
are_distinct [] = true
are_distinct (c ∷ columns) = not (list_any (λ x. x == c) columns) && are_distinct columns

-- the columns of a key: one or more, none of them twice
abbrev pub is_column_list : List ℕ → Bool
is_column_list columns = nat_le 1 (length columns) && are_distinct columns

abbrev pub has_column_lists : Table → Bool
has_column_lists table = is_column_list table.primary && list_all is_column_list table.uniques

-- a column that isn't hidden, and no more columns and unique keys than its limits say
abbrev pub is_within_limits : Table → Bool
is_within_limits table =
    nat_lt table.hidden table.columns && nat_le table.columns (most_columns table.limits) && nat_le (length table.uniques) (most_uniques table.limits)

-- each column of a list is one of this many
abbrev pub are_below : ℕ → List ℕ → Bool
are_below count columns = list_all (λ c. nat_lt c count) columns

abbrev pub has_its_columns : Table → Bool
has_its_columns table = are_below table.columns table.primary && list_all (are_below table.columns) table.uniques

abbrev pub is_table : Table → Bool
is_table table = has_column_lists table && is_within_limits table && has_its_columns table

abbrev pub is_taken : List ℕ → List Table → Bool
is_taken name tables = is_some (find_table name tables)

-- Why a table can't come after these: its lists of columns are tested first, then the limits, and then what it names.
abbrev pub table_fault : List Table → Table → Option TableFault
table_fault tables table =
    if not (has_column_lists table) then Some Body
    else if not (is_within_limits table && nat_lt (length tables) (most_tables table.limits)) then Some Limit
    else if is_taken table.name tables || not (has_its_columns table) then Some Schema
    else None

-- no name occurs twice
abbrev pub are_named_once : List Table → Bool
are_named_once [] = true
are_named_once (table ∷ tables) = not (is_taken table.name tables) && are_named_once tables

-- the name of each table, in order
abbrev pub table_names : List Table → List (List ℕ)
table_names tables = map (λ table. table.name) tables

-- the invariant of the tables of a schema
pub record AreTables (tables : List Table) : Type 0 where
  pub count : length tables ≤ 65536
  pub each : list_all is_table tables ≡ true
  pub once : are_named_once tables ≡ true
