-- The tables that events have mapped, each by the id that it was mapped to last.
use Rattle.std.specs.Prelude.{◌≡◌, ℕ, ◌==◌, List, Option, Some, None, option_map, if◌then◌else◌}
use Rattle.std.specs.Ordering.{nat_cmp}
use Rattle.std.specs.BTreeMap.{get}
use Rattle.binlog_events.specs.Bodies.{Mapped, mapped}
use Rattle.binlog_rows.specs.Columns.{columns_of}
use Rattle.binlog_rows.specs.declared.columns.MappedColumn.{MappedColumn}
use Rattle.binlog_files.specs.declared.tables.FileTable.{FileTable}
use Rattle.binlog_files.specs.declared.tables.FileTables.{FileTables}

-- a table of a database, and its columns
pub record TableOf : Type 0 where
  pub database : List ℕ
  pub table : List ℕ
  pub columns : List MappedColumn

abbrev pub Tables : Type 0
Tables = ℕ → Option TableOf

abbrev pub no_tables : Tables
no_tables id = None

abbrev pub with_table : ℕ → TableOf → Tables → Tables
with_table wanted table tables id = if wanted == id then Some table else tables id

abbrev pub table_of : Mapped → List MappedColumn → TableOf
table_of m columns = record { database = m.database; table = m.table; columns = columns }

abbrev pub with_columns : Mapped → Option (List MappedColumn) → Tables → Tables
with_columns m None tables = tables
with_columns m (Some columns) tables = with_table m.id (table_of m columns) tables

abbrev pub with_mapped : Option Mapped → List ℕ → Tables → Tables
with_mapped None body tables = tables
with_mapped (Some m) body tables = with_columns m (columns_of body) tables

-- behind an event: 19 is TABLE_MAP
abbrev pub tables_after : ℕ → List ℕ → Tables → Tables
tables_after kind body tables = if kind == 19 then with_mapped (mapped body) body tables else tables

-- what the code keeps
abbrev pub table_view : FileTable → TableOf
table_view t = record { database = t.database.items; table = t.table.items; columns = t.columns.items }

unfoldable pub tables_in : FileTables → Tables
tables_in t id = option_map table_view (get nat_cmp t.tables id)

abbrev pub HasTables : FileTables → Tables → Type 0
HasTables t tables = tables_in t ≡ tables
