-- What a schema takes can be written.
use Rattle.std.proofs.Common.{◌≡◌, ℕ, ◌+◌, ◌≤◌, Bool, true, false, not, ◌&&◌, List, [], ◌∷◌, length, refl, sym, subst, arith, nat_le, nat_lt, cond}
use Rattle.std.specs.Prelude.{Option, Some, None, ◌==◌}
use Rattle.std.specs.List.{list_all, list_any}
use Rattle.std.specs.Ordering.{nat_cmp, eq_by_cmp}
use Rattle.std.specs.Cmp.Lexicographic.{slice_cmp}
use Rattle.std.proofs.lemmas.Bool.Decides.{nat_tests}
use Rattle.row_images.specs.declared.value.Value.{Value}
use Rattle.row_images.specs.declared.value.Value.TheVariants.{Null, Int, Bytes}
use Rattle.rows.specs.declared.change.Change.{Change}
use Rattle.rows.specs.declared.change.Change.TheVariants.{Insert, Delete, Update}
use Rattle.rows.specs.declared.change.Transaction.{Transaction}
use Rattle.rows.specs.declared.schema.Table.{Table}
use Rattle.rows.specs.Keys.{find_table}
use Rattle.rows.specs.Tables.{AreTables, is_table, is_within_limits, has_column_lists, has_its_columns}
use Rattle.rows.specs.Fits.{Fits, misfit_from, change_misfit, misfit_in, images_misfit, row_misfit, has_primary_null, table_of, count_misfit}
use Rattle.row_images.specs.Values.{is_longer}
use Rattle.rows.proofs.FitLemmas.{no_cause, none_later, few_changes}
use Rattle.rows.specs.Limits.{most_bytes, most_columns}
use Rattle.rows.specs.declared.limits.Limits.{Limits}
use Rattle.rows.specs.declared.limits.Limits.TheVariants.{Narrow, Wide}
use Rattle.journal.specs.Writing.{is_txn_writable, is_change_writable, is_image_writable, is_value_writable}
use Rattle.std.proofs.lemmas.Bool.{and_parts, or_parts}

-- ---- a value and a row

-- what is within any limits is within the widest
short : (limits : Limits) (n : ℕ) → nat_lt (most_bytes limits) n ≡ false → nat_le n 4294967295 ≡ true
short Narrow n h = grind (arith, nat_tests, h)
short Wide n h = grind (arith, nat_tests, h)

value_writable : (limits : Limits) (v : Value) → is_longer (most_bytes limits) v ≡ false → is_value_writable Wide v ≡ true
value_writable limits Null h = refl
value_writable limits (Int n) h = refl
value_writable limits (Bytes b) h = short limits (length b) h

values_writable : (limits : Limits) (row : List Value) → list_any (is_longer (most_bytes limits)) row ≡ false → list_all (is_value_writable Wide) row ≡ true
values_writable limits [] h = refl
values_writable limits (v ∷ row) h =
    let each = or_parts (is_longer (most_bytes limits) v) (list_any (is_longer (most_bytes limits)) row) h in
    λ i. value_writable limits v each.0 i && values_writable limits row each.1 i

tests_pass : {X : Type 0} (x y z : X) (a b c : Bool) → (cond a (Some x) (cond b (Some y) (cond c (Some z) None))) ≡ None → (a ≡ false) × (c ≡ false)
tests_pass x y z true b c h = absurd (cc h)
tests_pass x y z false true c h = absurd (cc h)
tests_pass x y z false false true h = absurd (cc h)
tests_pass x y z false false false h = (refl, refl)

same_length : (n m : ℕ) → not (n == m) ≡ false → n ≡ m
same_length n m h = grind (arith, nat_tests, h)

row_writable : (table : Table) (row : List Value) → nat_le 1 table.columns ≡ true → nat_le table.columns 4096 ≡ true → row_misfit table row ≡ None → is_image_writable Wide row ≡ true
row_writable table row low high h =
    let each = tests_pass _ _ _ (not (length row == table.columns)) (has_primary_null table row) (list_any (is_longer (most_bytes table.limits)) row) h in
    let same = sym (same_length (length row) table.columns each.0) in
    λ i. subst (λ n. nat_le 1 n ≡ true) same low i && (subst (λ n. nat_le n 4096 ≡ true) same high i && values_writable table.limits row each.1 i)

-- ---- a change

same_some : (a b : Table) → ◌≡◌ {A = Option Table} (Some a) (Some b) → a ≡ b
same_some a b e = cc

named_by : (name : List ℕ) (table : Table) (tables : List Table) (b : Bool) (t : Table) → is_table table ≡ true → (find_table name tables ≡ Some t → is_table t ≡ true) → cond b (Some table) (find_table name tables) ≡ Some t → is_table t ≡ true
named_by name table tables true t one rest at = subst (λ (x : Table). is_table x ≡ true) (same_some table t at) one
named_by name table tables false t one rest at = rest at

named : (name : List ℕ) (tables : List Table) (t : Table) → list_all is_table tables ≡ true → find_table name tables ≡ Some t → is_table t ≡ true
named name [] t all at = absurd (cc at)
named name (table ∷ tables) t all at =
    let each = and_parts (is_table table) (list_all is_table tables) all in
    named_by name table tables (eq_by_cmp (slice_cmp nat_cmp) name table.name) t each.0 (named name tables t each.1) at

change_writable : (c : Change) (table : Table) → nat_le 1 table.columns ≡ true → nat_le table.columns 4096 ≡ true → images_misfit table c ≡ None → is_change_writable Wide c ≡ true
change_writable (Insert name after) table low high h = row_writable table after low high h
change_writable (Delete name before) table low high h = row_writable table before low high h
change_writable (Update name before after) table low high h =
    let each = no_cause (row_misfit table before) (row_misfit table after) h in
    λ i. row_writable table before low high each.0 i && row_writable table after low high each.1 i

some_column : (hidden n : ℕ) → nat_lt hidden n ≡ true → nat_le 1 n ≡ true
some_column hidden n h = grind (arith, nat_tests, h)

few_columns : (limits : Limits) (n : ℕ) → nat_le n (most_columns limits) ≡ true → nat_le n 4096 ≡ true
few_columns Narrow n h = grind (arith, nat_tests, h)
few_columns Wide n h = h

change_by : (schema : List Table) (c : Change) (o : Option Table) → list_all is_table schema ≡ true → find_table (table_of c) schema ≡ o → misfit_in o c ≡ None → is_change_writable Wide c ≡ true
change_by schema c None all at h = absurd (cc h)
change_by schema c (Some table) all at h =
    let is = and_parts (has_column_lists table && is_within_limits table) (has_its_columns table) (named (table_of c) schema table all at) in
    let within = and_parts (has_column_lists table) (is_within_limits table) is.0 in
    let limits = and_parts (nat_lt table.hidden table.columns && nat_le table.columns (most_columns table.limits)) _ within.1 in
    let columns = and_parts (nat_lt table.hidden table.columns) (nat_le table.columns (most_columns table.limits)) limits.0 in
    change_writable c table (some_column table.hidden table.columns columns.0) (few_columns table.limits table.columns columns.1) h

changes_writable : (schema : List Table) (n : ℕ) (cs : List Change) → list_all is_table schema ≡ true → misfit_from schema n cs ≡ None → list_all (is_change_writable Wide) cs ≡ true
changes_writable schema n [] all h = refl
changes_writable schema n (c ∷ cs) all h =
    let each = none_later (change_misfit schema n c) n (misfit_from schema (n + 1) cs) h in
    let fits = no_cause (misfit_in (find_table (table_of c) schema) c) (count_misfit (find_table (table_of c) schema) n) each.0 in
    λ i. change_by schema c (find_table (table_of c) schema) all refl fits.0 i && changes_writable schema (n + 1) cs all each.1 i

few : (n : ℕ) → n ≤ 4294967294 → nat_le n 4294967294 ≡ true
few n h = grind (arith, nat_tests)

-- a transaction that the schema takes can be written
pub fits_writable : (schema : List Table) (txn : Transaction) → AreTables schema → Fits schema txn → is_txn_writable Wide txn ≡ true
fits_writable schema txn tables fits =
    λ i. few (length txn.changes) (few_changes schema txn fits) i && changes_writable schema 0 txn.changes tables.each fits i
