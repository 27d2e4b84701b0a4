-- Where the names of tables are.
use Rattle.std.proofs.Common.{◌≡◌, ◌<◌, ◌+◌, ℕ, Bool, true, false, cond, List, [], ◌∷◌, ◌++◌, length, take, map, get_or, slice_get, Some, None, is_some, position, Option, IfSome, ltb, refl, ap, sym, ◌∙◌}
use Rattle.std.proofs.lemmas.List.{map-append, take_more}
use Rattle.std.proofs.lemmas.Bool.{ltb-true, ltb-false}
use Rattle.std.proofs.lemmas.Option.{slice_get_past, slice_get_read}
use Rattle.std.specs.Borrow.{Bor}
use Rattle.std.specs.Map.{keys_of, values_of, lookup}
use Rattle.std.specs.Option.{option_copied}
use Rattle.std.specs.Ordering.{nat_cmp, eq_by_cmp}
use Rattle.std.specs.Cmp.Lexicographic.{slice_cmp}
use Rattle.indexmap.proofs.MapLemmas.{Found-position, Missing-position, some_index}
use Rattle.key_table.specs.Opened.{open_entry}
use Rattle.rows.specs.declared.schema.Table.{Table}
use Rattle.rows.specs.Keys.{find_table}
use Rattle.rows.specs.Tables.{are_named_once, is_taken, table_names}
use Rattle.rows.proofs.TableLemmas.{not_before}

-- whether a name is this one
abbrev pub name_test : List ℕ → List ℕ → Bool
name_test = eq_by_cmp (slice_cmp nat_cmp)

-- each table under its name
abbrev named : List Table → List (List ℕ × Table)
named tables = map (λ (table : Table). (table.name, table)) tables

names_named : (tables : List Table) → keys_of (named tables) ≡ table_names tables
names_named [] = refl
names_named (x ∷ tables) = ap (λ l. x.name ∷ l) (names_named tables)

tables_named : (tables : List Table) → values_of (named tables) ≡ tables
tables_named [] = refl
tables_named (x ∷ tables) = ap (λ l. x ∷ l) (tables_named tables)

find_named : (name : List ℕ) (tables : List Table) → lookup (name_test name) (named tables) ≡ find_table name tables
find_named name [] = refl
find_named name (x ∷ tables) = ap (λ o. cond (name_test name x.name) (Some x) o) (find_named name tables)

-- ---- the place of a name is that of its table

pub table_at : (name : List ℕ) (tables : List Table) (place : ℕ) → position (name_test name) (table_names tables) ≡ Some place → find_table name tables ≡ slice_get tables place
table_at name tables place at =
    sym (find_named name tables)
    ∙ (Found-position (name_test name) (named tables) place (ap (position (name_test name)) (names_named tables) ∙ at)).value
    ∙ ap (λ l. slice_get l place) (tables_named tables)

pub no_table_at : (name : List ℕ) (tables : List Table) → position (name_test name) (table_names tables) ≡ None → find_table name tables ≡ None
no_table_at name tables none =
    sym (find_named name tables) ∙ (Missing-position (name_test name) (named tables) (ap (position (name_test name)) (names_named tables) ∙ none)).value

-- what a look at a place shows
pub table_got : (tables : List Table) (place : ℕ) (r : Option (Bor Table)) → is_some r ≡ ltb place (length tables) → IfSome r (λ (t : Bor Table). t.now ≡ get_or tables place t.now) → option_copied r ≡ slice_get tables place
table_got tables place None within here = sym (slice_get_past tables place (ltb-false _ _ (sym within)))
table_got tables place (Some t) within here = sym (slice_get_read tables (length tables) place t.now refl (ltb-true _ _ (sym within)) here)

-- ---- one name more

is_known : {V : Type 0} (name : List ℕ) (es : List (List ℕ × V)) (tables : List Table) → keys_of es ≡ table_names tables → is_some (lookup (name_test name) es) ≡ is_taken name tables
is_known name es tables same =
    sym (some_index (name_test name) es) ∙ ap (λ ks. is_some (position (name_test name) ks)) (same ∙ sym (names_named tables))
    ∙ some_index (name_test name) (named tables) ∙ ap is_some (find_named name tables)

pub name_added : {V : Type 0} (es fs : List (List ℕ × V)) (tables : List Table) (table : Table) (name : List ℕ) (v : V) → keys_of es ≡ table_names tables → is_taken table.name tables ≡ false → name ≡ table.name → fs ≡ open_entry name_test es name v
    → keys_of fs ≡ table_names (tables ++ table ∷ [])
name_added {V} es fs tables table name v same free is opened =
    ap keys_of (opened ∙ ap (λ n. open_entry name_test es n v) is)
    ∙ ap (λ b. keys_of (cond b es (es ++ (table.name, v) ∷ []))) (is_known table.name es tables same ∙ free)
    ∙ map-append (λ (e : List ℕ × V). e.0) es ((table.name, v) ∷ [])
    ∙ ap (λ ks. ks ++ table.name ∷ []) same
    ∙ sym (map-append (λ (t : Table). t.name) tables (table ∷ []))

pub next_added : {V : Type 0} (es fs : List (List ℕ × V)) (tables : List Table) (place : ℕ) (table : Table) (name : List ℕ) (v : V) → are_named_once tables ≡ true → place < length tables → table ≡ get_or tables place table → keys_of es ≡ table_names (take place tables) → name ≡ table.name
    → fs ≡ open_entry name_test es name v → keys_of fs ≡ table_names (take (place + 1) tables)
next_added es fs tables place table name v once lt at same is opened =
    let free = ap (λ (t : Table). is_taken t.name (take place tables)) at ∙ not_before tables place table once lt in
    name_added es fs (take place tables) table name v same free is opened
    ∙ ap table_names (ap (λ (t : Table). take place tables ++ t ∷ []) at ∙ sym (take_more tables place table lt))
