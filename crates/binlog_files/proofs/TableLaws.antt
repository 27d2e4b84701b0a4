-- The tables that are mapped, as a map and as a function.
use Rattle.std.proofs.Common.{◌≡◌, ℕ, Bool, true, false, cond, Option, Some, None, refl, ap, ◌∙◌, Bor}
use Rattle.std.specs.Prelude.{option_map}
use Rattle.std.specs.Option.{option_copied}
use Rattle.std.specs.Ordering.{nat_cmp, is_eq}
use Rattle.std.specs.BTreeMap.{get, is_at, IsEmpty, Updates}
use Rattle.std.specs.Map.{lookup}
use Rattle.std.specs.Cmp.{unsigned_tied}
use Rattle.binlog_files.specs.declared.tables.FileTable.{FileTable}
use Rattle.binlog_files.specs.declared.tables.FileTables.{FileTables}
use Rattle.binlog_files.specs.Tables.{TableOf, table_view, tables_in, HasTables, no_tables, with_table}

abbrev items_of : Option FileTable → Option TableOf
items_of o = option_map table_view o

pub no_tables_in : (t : FileTables) → IsEmpty t.tables → HasTables t no_tables
unfolding tables_in
no_tables_in t e = λ i id. items_of (lookup (is_at (nat_cmp id)) (e i))

copied : (o : Option (Bor FileTable)) → option_map (λ b. table_view b.now) o ≡ items_of (option_copied o)
copied None = refl
copied (Some table) = refl

pub table_in : (t : FileTables) (id : ℕ) (o : Option (Bor FileTable)) → option_copied o ≡ get nat_cmp t.tables id → option_map (λ b. table_view b.now) o ≡ tables_in t id
unfolding tables_in
table_in t id o e = copied o ∙ ap items_of e

chosen_table : (b : Bool) (table : FileTable) (o : Option FileTable) → items_of (cond b (Some table) o) ≡ cond b (Some (table_view table)) (items_of o)
chosen_table true table o = refl
chosen_table false table o = refl

table_at : (s t : FileTables) (wanted : ℕ) (table : FileTable) → Updates nat_cmp s.tables t.tables wanted (Some table) → (id : ℕ) → tables_in t id ≡ with_table wanted (table_view table) (tables_in s) id
unfolding tables_in
table_at s t wanted table u id =
    ap items_of (u.0 id)
    ∙ chosen_table (is_eq (nat_cmp wanted id)) table (get nat_cmp s.tables id)
    ∙ ap (λ (b : Bool). cond b (Some (table_view table)) (items_of (get nat_cmp s.tables id))) (unsigned_tied wanted id)

pub with_table_in : (s t : FileTables) (wanted : ℕ) (table : FileTable) → Updates nat_cmp s.tables t.tables wanted (Some table) → HasTables t (with_table wanted (table_view table) (tables_in s))
with_table_in s t wanted table u = λ i id. table_at s t wanted table u id i
