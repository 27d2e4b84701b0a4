-- What the tables of a schema keep to.
use Rattle.std.proofs.Common.{arith, ◌≡◌, ℕ, zero, suc, get_or, refl, sym, ap, subst, ◌≤◌, ◌<◌, nat_le, nat_lt, Bool, true, false, not, cond, ◌&&◌, ◌||◌, List, [], ◌∷◌, ◌++◌, length, take, length-append, Option, Some, None, is_some, ◌∙◌}
use Rattle.std.proofs.lemmas.Bool.Decides.{nat_tests}
use Rattle.std.specs.List.{list_all}
use Rattle.std.proofs.lemmas.List.Folds.{list_all-append}
use Rattle.std.specs.Ordering.{nat_cmp, eq_by_cmp}
use Rattle.std.specs.Cmp.{eq_by_cmp_equiv}
use Rattle.std.specs.Cmp.Lexicographic.{slice_cmp, nat_list_cmp_total}
use Rattle.rows.specs.Keys.{find_table}
use Rattle.rows.specs.Limits.{most_tables, most_columns, most_uniques}
use Rattle.rows.specs.declared.limits.Limits.{Limits}
use Rattle.rows.specs.declared.limits.Limits.TheVariants.{Narrow, Wide}
use Rattle.rows.specs.Tables.{is_table, has_column_lists, is_within_limits, has_its_columns, is_taken, table_fault, are_named_once, AreTables}
use Rattle.rows.specs.declared.schema.TableFault.TheVariants.{Body, Limit, Schema}
use Rattle.rows.specs.declared.schema.Table.{Table}
use Rattle.std.proofs.lemmas.Bool.{and_parts, and_from, false_from_ne_true, not-false, or_parts, not_from_false, not-true}
use Rattle.std.proofs.lemmas.Option.{same_Some}
use Rattle.std.specs.Borrow.{Bor}
use Rattle.std.specs.Option.{option_copied}
use Rattle.std.specs.Prelude.{IfSome}
use Rattle.row_images.proofs.Equal.{names-Decide}

-- each table has at most 64 unique keys
abbrev pub HaveFewUniques : List Table → Type 0
HaveFewUniques [] = Unit {0}
HaveFewUniques (table ∷ tables) = (length table.uniques ≤ 64) × HaveFewUniques tables

few_of : (limits : Limits) (n : ℕ) → nat_le n (most_uniques limits) ≡ true → n ≤ 64
few_of Narrow n e = grind (arith, nat_tests, e)
few_of Wide n e = grind (arith, nat_tests, e)

few_tables : (limits : Limits) (n : ℕ) → nat_lt n (most_tables limits) ≡ true → n < 65536
few_tables Narrow n e = grind (arith, nat_tests, e)
few_tables Wide n e = grind (arith, nat_tests, e)

pub few_uniques : (tables : List Table) → list_all is_table tables ≡ true → HaveFewUniques tables
few_uniques [] e = tt
few_uniques (table ∷ tables) e =
    let here = and_parts (is_table table) (list_all is_table tables) e in
    let limits = and_parts (has_column_lists table) (is_within_limits table) (and_parts (has_column_lists table && is_within_limits table) (has_its_columns table) here.0).0 in
    let count = and_parts (nat_lt table.hidden table.columns && nat_le table.columns (most_columns table.limits)) (nat_le (length table.uniques) (most_uniques table.limits)) limits.1 in
    (few_of table.limits (length table.uniques) count.1, few_uniques tables here.1)

-- ---- one more table

no_fault : (a b c : Bool) → cond a (Some Body) (cond b (Some Limit) (cond c (Some Schema) None)) ≡ None → (a ≡ false) × (b ≡ false) × (c ≡ false)
no_fault true b c e = cc
no_fault false true c e = cc
no_fault false false true e = cc
no_fault false false false e = (λ _. false, λ _. false, λ _. false)

untaken_by : (b : Bool) (table : Table) (rest : Option Table) → is_some (cond b (Some table) rest) ≡ false → (b ≡ false) × (is_some rest ≡ false)
untaken_by true table rest e = cc
untaken_by false table rest e = (λ _. false, e)

by_untaken : (b : Bool) (table : Table) (rest : Option Table) → b ≡ false → is_some rest ≡ false → is_some (cond b (Some table) rest) ≡ false
by_untaken true table rest e f = cc
by_untaken false table rest e f = f

is_taken-push : (name : List ℕ) (tables : List Table) (table : Table) → is_taken name tables ≡ false → eq_by_cmp (slice_cmp nat_cmp) name table.name ≡ false → is_taken name (tables ++ table ∷ []) ≡ false
is_taken-push name [] table e f = by_untaken (eq_by_cmp (slice_cmp nat_cmp) name table.name) table None f (λ _. false)
is_taken-push name (x ∷ tables) table e f =
    let parts = untaken_by (eq_by_cmp (slice_cmp nat_cmp) name x.name) x (find_table name tables) e in
    by_untaken (eq_by_cmp (slice_cmp nat_cmp) name x.name) x (find_table name (tables ++ table ∷ [])) parts.0 (is_taken-push name tables table parts.1 f)

are_named_once-push : (tables : List Table) (table : Table) → are_named_once tables ≡ true → is_taken table.name tables ≡ false → are_named_once (tables ++ table ∷ []) ≡ true
are_named_once-push [] table e f = λ _. true
are_named_once-push (x ∷ tables) table e f =
    let parts = and_parts (not (is_taken x.name tables)) (are_named_once tables) e in
    let other = untaken_by (eq_by_cmp (slice_cmp nat_cmp) table.name x.name) x (find_table table.name tables) f in
    let turned : eq_by_cmp (slice_cmp nat_cmp) x.name table.name ≡ false = (eq_by_cmp_equiv nat_list_cmp_total).symm x.name table.name ∙ other.0 in
    and_from (not (is_taken x.name (tables ++ table ∷ []))) (are_named_once (tables ++ table ∷ []))
    (not_from_false (is_taken x.name (tables ++ table ∷ [])) (is_taken-push x.name tables table (not-true (is_taken x.name tables) parts.0) turned))
    (are_named_once-push tables table parts.1 other.1)

-- a table that is not refused may come after the others
pub table_added : (tables : List Table) (table : Table) → AreTables tables → table_fault tables table ≡ None → AreTables (tables ++ table ∷ [])
table_added tables table h e =
    let n = no_fault (not (has_column_lists table)) (not (is_within_limits table && nat_lt (length tables) (most_tables table.limits))) (is_taken table.name tables || not (has_its_columns table)) e in
    let limits = and_parts (is_within_limits table) (nat_lt (length tables) (most_tables table.limits)) (not-false (is_within_limits table && nat_lt (length tables) (most_tables table.limits)) n.1) in
    let names = or_parts (is_taken table.name tables) (not (has_its_columns table)) n.2 in
    let sound : is_table table ≡ true =
    and_from (has_column_lists table && is_within_limits table) (has_its_columns table)
    (and_from (has_column_lists table) (is_within_limits table) (not-false (has_column_lists table) n.0) limits.0)
    (not-false (has_its_columns table) names.1) in
    let below = few_tables table.limits (length tables) limits.1 in
    record {
      count = omega (arith, length-append tables (table ∷ []), below);
      each = list_all-append is_table tables (table ∷ []) ∙ and_from (list_all is_table tables) (list_all is_table (table ∷ [])) h.each (and_from (is_table table) true sound (λ _. true));
      once = are_named_once-push tables table h.once names.0;
    }

-- nor has another its name
pub not_taken : (tables : List Table) (table : Table) → table_fault tables table ≡ None → is_taken table.name tables ≡ false
not_taken tables table e =
    (or_parts (is_taken table.name tables) (not (has_its_columns table)) (no_fault (not (has_column_lists table)) (not (is_within_limits table && nat_lt (length tables) (most_tables table.limits))) (is_taken table.name tables || not (has_its_columns table)) e).2).0

-- ---- a table that is found

-- a name that is found later is not the first one
named_apart : (name : List ℕ) (x : Table) (tables : List Table) (table : Table) → is_taken x.name tables ≡ false → find_table name tables ≡ Some table → eq_by_cmp (slice_cmp nat_cmp) name x.name ≡ false
named_apart name x tables table free later =
    false_from_ne_true (eq_by_cmp (slice_cmp nat_cmp) name x.name) (λ e.
    let taken : is_taken x.name tables ≡ true = ap (λ (n : List ℕ). is_taken n tables) (sym ((names-Decide name x.name).0 e)) ∙ ap is_some later in
    absurd cc)

-- the table at a place has its name alone
named_at : (name : List ℕ) (tables : List Table) (place : ℕ) (d : Table) → are_named_once tables ≡ true → place < length tables → eq_by_cmp (slice_cmp nat_cmp) name (get_or tables place d).name ≡ true → find_table name tables ≡ Some (get_or tables place d)
named_at name [] place d once lt same = absurd (omega arith)
named_at name (x ∷ tables) zero d once lt same = rw same refl
named_at name (x ∷ tables) (suc place) d once lt same =
    let parts = and_parts (not (is_taken x.name tables)) (are_named_once tables) once in
    let later = named_at name tables place d parts.1 (omega arith) same in
    rw (named_apart name x tables (get_or tables place d) (not-true (is_taken x.name tables) parts.0) later) later

-- no table before a place has the name of the one at it
pub not_before : (tables : List Table) (place : ℕ) (d : Table) → are_named_once tables ≡ true → place < length tables → is_taken (get_or tables place d).name (take place tables) ≡ false
not_before [] place d once lt = absurd (omega arith)
not_before (x ∷ tables) zero d once lt = λ _. false
not_before (x ∷ tables) (suc place) d once lt =
    let parts = and_parts (not (is_taken x.name tables)) (are_named_once tables) once in
    let name = (get_or tables place d).name in
    let found = named_at name tables place d parts.1 (omega arith) ((eq_by_cmp_equiv nat_list_cmp_total).refl name) in
    by_untaken (eq_by_cmp (slice_cmp nat_cmp) name x.name) x (find_table name (take place tables))
    (named_apart name x tables (get_or tables place d) (not-true (is_taken x.name tables) parts.0) found) (not_before tables place d parts.1 (omega arith))

-- what is found has at most 64 unique keys
pub few_found : (name : List ℕ) (tables : List Table) (table : Table) → HaveFewUniques tables → find_table name tables ≡ Some table → length table.uniques ≤ 64
few_found name [] table few e = absurd cc
few_found name (x ∷ tables) table few e =
    elim (eq_by_cmp (slice_cmp nat_cmp) name x.name) as (λ b. cond b (Some x) (find_table name tables) ≡ Some table → length table.uniques ≤ 64) [
      | true ↦ λ f. subst (λ (t : Table). length t.uniques ≤ 64) (same_Some x table f) few.0
      | false ↦ λ f. few_found name tables table few.1 f
    ] e

pub few_shown : (name : List ℕ) (tables : List Table) (r : Option (Bor Table)) → HaveFewUniques tables → option_copied r ≡ find_table name tables → IfSome r (λ (t : Bor Table). length t.now.uniques ≤ 64)
few_shown name tables None few e = tt
few_shown name tables (Some t) few e = few_found name tables t.now few (sym e)
