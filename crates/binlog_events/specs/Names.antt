-- The names of the tables that events have mapped, and their columns.
use Rattle.std.specs.Prelude.{◌≡◌, ℕ, ◌==◌, List, Option, Some, None, option_map, if◌then◌else◌}
use Rattle.std.specs.Ordering.{nat_cmp}
use Rattle.std.specs.BTreeMap.{get}
use Rattle.binlog_events.specs.Texts.{table_name}
use Rattle.binlog_events.specs.Bodies.{Mapped, mapped}
use Rattle.binlog_rows.specs.declared.columns.MappedColumn.{MappedColumn}
use Rattle.binlog_rows.specs.Columns.{columns_of}
use Rattle.binlog_events.specs.declared.names.DescribedTable.{DescribedTable}
use Rattle.binlog_events.specs.declared.names.TableNames.{TableNames}

-- a table's name, and its columns, if the event that maps it describes them
pub record Described : Type 0 where
  pub name : List ℕ
  pub columns : Option (List MappedColumn)

-- the table that an id was mapped to last, if it was
abbrev pub Names : Type 0
Names = ℕ → Option Described

abbrev pub no_names : Names
no_names id = None

abbrev pub with_name : ℕ → Described → Names → Names
with_name wanted table names id = if wanted == id then Some table else names id

-- what an event says of the table that it maps
abbrev pub described_by : Mapped → List ℕ → Described
described_by m body = record { name = table_name m.database m.table; columns = columns_of body }

abbrev pub with_mapped : Option Mapped → List ℕ → Names → Names
with_mapped None body names = names
with_mapped (Some m) body names = with_name m.id (described_by m body) names

-- behind an event: 19 is TABLE_MAP
abbrev pub names_after : ℕ → List ℕ → Names → Names
names_after kind body names = if kind == 19 then with_mapped (mapped body) body names else names

-- the tables that the code keeps
abbrev pub described : DescribedTable → Described
described t = record { name = t.name.items; columns = option_map (λ v. v.items) t.columns }

unfoldable pub names_in : TableNames → Names
names_in t id = option_map described (get nat_cmp t.names id)

abbrev pub HasNames : TableNames → Names → Type 0
HasNames t names = names_in t ≡ names
