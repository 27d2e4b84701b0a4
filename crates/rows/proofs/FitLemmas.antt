-- What a transaction that fits keeps to.
use Rattle.std.proofs.Common.{arith, ◌≡◌, ℕ, ◌+◌, ◌≤◌, ◌<◌, nat_le, Bool, true, false, cond, ◌⊎◌, inl, inr, List, [], ◌∷◌, length, Option, Some, None, Result, Ok, Err, OnOk, OnErr, sym, ap, subst, ◌∙◌}
use Rattle.std.specs.FinMap.{get, empty, get-empty}
use Rattle.std.specs.Option.{unwrap_or}
use Rattle.std.proofs.lemmas.Bool.Decides.{nat_tests}
use Rattle.row_images.specs.declared.value.Value.{Value}
use Rattle.rows.specs.declared.change.Change.{Change}
use Rattle.rows.specs.declared.change.Change.TheVariants.{Insert, Delete, Update}
use Rattle.rows.specs.declared.change.Key.{Key}
use Rattle.rows.specs.declared.change.Misfit.{Misfit}
use Rattle.rows.specs.declared.change.Misfit.TheVariants.{TooMany}
use Rattle.rows.specs.declared.change.NotInSchema.{NotInSchema}
use Rattle.rows.specs.declared.change.Transaction.{Transaction}
use Rattle.rows.specs.declared.patch.InstallOutcome.{InstallOutcome}
use Rattle.rows.specs.declared.patch.InstallOutcome.TheVariants.{Installed, Stale}
use Rattle.rows.specs.declared.schema.Table.{Table}
use Rattle.rows.specs.Order.{key_cmp}
use Rattle.rows.specs.Apply.{Rows, apply}
use Rattle.rows.specs.Database.{AreRowsOf, NoTwoCarry}
use Rattle.rows.specs.Fits.{row_misfit, row_misfit_in, IsRowOf, rank, first_cause, table_of, misfit_in, count_misfit, change_misfit, or_later, misfit_from, misfit, Fits}
use Rattle.rows.specs.Keys.{find_table, carried_keys}
use Rattle.rows.specs.Limits.{most_changes}
use Rattle.rows.specs.declared.limits.Limits.{Limits}
use Rattle.rows.specs.declared.limits.Limits.TheVariants.{Narrow, Wide}
use Rattle.rows.specs.Patch.{SameTables}
use Rattle.rows.specs.Prepared.{same_table, same_tables}
use Rattle.rows.specs.WriteSet.{is_among, left_by_change, or_earlier, left_by_changes, left_by}
use Rattle.rows.proofs.Equal.{tables-Decide}
use Rattle.rows.proofs.Local.{after_apply}
use Rattle.rows.proofs.Carriers.{carried_table, apply_keeps_carriers, no_carriers}
use Rattle.std.proofs.lemmas.Option.{same_Some}
use Rattle.std.proofs.lemmas.Bool.{and_parts, and_from}
use Rattle.lemmas.proofs.Options.{none_some}

some_by : (p : Bool) (a b : Misfit) → cond p (Some a) (Some b) ≡ None → ⊥
some_by true a b e = cc
some_by false a b e = cc

pub no_cause : (a b : Option Misfit) → first_cause a b ≡ None → (a ≡ None) × (b ≡ None)
no_cause None b e = (λ _. None, e)
no_cause (Some a) None e = cc
no_cause (Some a) (Some b) e = absurd (some_by (nat_le (rank a) (rank b)) a b e)

pub none_later : (cause : Option Misfit) (n : ℕ) (later : Option NotInSchema) → or_later cause n later ≡ None → (cause ≡ None) × (later ≡ None)
none_later None n later e = (λ _. None, e)
none_later (Some cause) n later e = cc

no_count : (p : Bool) → cond p (Some TooMany) None ≡ None → p ≡ false
no_count true e = cc
no_count false e = λ _. false

below_most : (limits : Limits) (n : ℕ) → nat_le (most_changes limits) n ≡ false → n < 4294967294
below_most Narrow n e = grind (arith, nat_tests, e)
below_most Wide n e = grind (arith, nat_tests, e)

few_at : (table : Option Table) (change : Change) (n : ℕ) → misfit_in table change ≡ None → count_misfit table n ≡ None → n < 4294967294
few_at None change n fit e = cc
few_at (Some table) change n fit e = below_most table.limits n (no_count (nat_le (most_changes table.limits) n) e)

few_from : (schema : List Table) (n : ℕ) (changes : List Change) → misfit_from schema n changes ≡ None → n ≤ 4294967294 → n + length changes ≤ 4294967294
few_from schema n [] e h = omega arith
few_from schema n (change ∷ changes) e h =
    let table = find_table (table_of change) schema in
    let parts = none_later (change_misfit schema n change) n (misfit_from schema (n + 1) changes) e in
    let causes = no_cause (misfit_in table change) (count_misfit table n) parts.0 in
    let below = few_at table change n causes.0 causes.1 in
    omega (arith, few_from schema (n + 1) changes parts.1 (omega (arith, below)))

-- a transaction that fits has no more changes than the widest limits say
pub few_changes : (schema : List Table) (txn : Transaction) → misfit schema txn ≡ None → length txn.changes ≤ 4294967294
few_changes schema txn e = omega (arith, few_from schema 0 txn.changes e (omega arith))

-- ---- what a transaction that fits leaves

left_row : (b : Bool) (after row : List Value) (rest : Option (Option (List Value))) → cond b (Some (Some after)) rest ≡ Some (Some row) → ((b ≡ true) × (after ≡ row)) ⊎ (rest ≡ Some (Some row))
left_row true after row rest e = inl (λ _. true, same_Some after row (same_Some (Some after) (Some row) e))
left_row false after row rest e = inr e

no_row : (b : Bool) (row : List Value) → cond b (Some None) None ≡ Some (Some row) → ⊥
no_row true row e = cc
no_row false row e = cc

insert_fits : (o : Option Table) (name : List ℕ) (after : List Value) → misfit_in o (Insert name after) ≡ None → row_misfit_in o after ≡ None
insert_fits None name after e = cc
insert_fits (Some table) name after e = e

update_fits : (o : Option Table) (name : List ℕ) (before after : List Value) → misfit_in o (Update name before after) ≡ None → row_misfit_in o after ≡ None
update_fits None name before after e = cc
update_fits (Some table) name before after e = (no_cause (row_misfit table before) (row_misfit table after) e).1

-- a row that carries a key is a row of its table
at_key : (schema : List Table) (name : List ℕ) (after row : List Value) (k : Key) → is_among (carried_keys schema name after) k ≡ true → after ≡ row → IsRowOf schema name after → IsRowOf schema k.table row
at_key schema name after row k i e fit =
    subst (λ (r : List Value). IsRowOf schema k.table r) e (subst (λ (n : List ℕ). IsRowOf schema n after) (sym (carried_table schema name after k i)) fit)

left_one : (schema : List Table) (change : Change) (k : Key) (row : List Value) → misfit_in (find_table (table_of change) schema) change ≡ None → left_by_change schema change k ≡ Some (Some row) → IsRowOf schema k.table row
left_one schema (Insert table after) k row fit e =
    elim (left_row (is_among (carried_keys schema table after) k) after row None e) [
      | inl here ↦ at_key schema table after row k here.0 here.1 (insert_fits (find_table table schema) table after fit)
      | inr none ↦ cc
    ]
left_one schema (Delete table before) k row fit e = absurd (no_row (is_among (carried_keys schema table before) k) row e)
left_one schema (Update table before after) k row fit e =
    elim (left_row (is_among (carried_keys schema table after) k) after row (cond (is_among (carried_keys schema table before) k) (Some None) None) e) [
      | inl here ↦ at_key schema table after row k here.0 here.1 (update_fits (find_table table schema) table before after fit)
      | inr rest ↦ absurd (no_row (is_among (carried_keys schema table before) k) row rest)
    ]

which : (later here : Option (Option (List Value))) (row : List Value) → or_earlier later here ≡ Some (Some row) → (later ≡ Some (Some row)) ⊎ (here ≡ Some (Some row))
which (Some image) here row e = inl e
which None here row e = inr e

left_fits : (schema : List Table) (n : ℕ) (changes : List Change) (k : Key) (row : List Value) → misfit_from schema n changes ≡ None → left_by_changes schema changes k ≡ Some (Some row) → IsRowOf schema k.table row
left_fits schema n [] k row fit e = cc
left_fits schema n (change ∷ changes) k row fit e =
    let parts = none_later (change_misfit schema n change) n (misfit_from schema (n + 1) changes) fit in
    elim (which (left_by_changes schema changes k) (left_by_change schema change k) row e) [
      | inl later ↦ left_fits schema (n + 1) changes k row parts.1 later
      | inr here ↦ left_one schema change k row (no_cause (misfit_in (find_table (table_of change) schema) change) (count_misfit (find_table (table_of change) schema) n) parts.0).0 here
    ]

stands : (left : Option (Option (List Value))) (before : Option (List Value)) (row : List Value) → unwrap_or left before ≡ Some row → (left ≡ Some (Some row)) ⊎ (before ≡ Some row)
stands (Some image) before row e = inl (ap Some e)
stands None before row e = inr e

-- a transaction that fits leaves rows of the schema's tables
pub keeps_rows : (schema : List Table) (txn : Transaction) (rows new : Rows) → Fits schema txn → AreRowsOf schema rows → apply schema txn rows ≡ Ok new → AreRowsOf schema new
keeps_rows schema txn rows new fit h e = record {
  carriers = apply_keeps_carriers schema txn rows new h.carriers e;
  fitting = λ k row there. elim (stands (left_by schema txn k) (get rows k) row (sym (after_apply schema txn rows new e k) ∙ there)) [
    | inl left ↦ left_fits schema 0 txn.changes k row fit left
    | inr old ↦ h.fitting k row old
  ];
}

pub no_rows : (schema : List Table) → AreRowsOf schema empty
no_rows schema = record { carriers = no_carriers schema; fitting = λ k row e. none_some row (sym (get-empty key_cmp k) ∙ e) }

-- where each row is stored under all its keys, no two rows carry one key
pub no_two_carry : (schema : List Table) (rows : Rows) → AreRowsOf schema rows → NoTwoCarry schema rows
no_two_carry schema rows h p q k a b there_a there_b by_a by_b =
    same_Some a b (sym (h.carriers.everywhere p k a there_a by_a) ∙ h.carriers.everywhere q k b there_b by_b)

-- ---- the tables that a transaction names

-- Two schemas that have the same tables under the names that a transaction has, take it alike.
misfit_along : (a b : List Table) (n : ℕ) (changes : List Change) → SameTables a b changes → misfit_from a n changes ≡ misfit_from b n changes
misfit_along a b n [] same = λ _. None
misfit_along a b n (change ∷ changes) same =
    ap (λ o. or_later (first_cause (misfit_in o change) (count_misfit o n)) n (misfit_from a (n + 1) changes)) same.0
    ∙ ap (or_later (change_misfit b n change) n) (misfit_along a b (n + 1) changes same.1)

pub fits_along : (a b : List Table) (txn : Transaction) → SameTables a b txn.changes → Fits a txn → Fits b txn
fits_along a b txn same fit = sym (misfit_along a b 0 txn.changes same) ∙ fit

same_table_told : (a b : Option Table) → same_table a b ≡ true → a ≡ b
same_table_told None None e = λ _. None
same_table_told None (Some b) e = cc
same_table_told (Some a) None e = cc
same_table_told (Some a) (Some b) e = ap Some ((tables-Decide a b).0 e)

same_table_tells : (a b : Option Table) → a ≡ b → same_table a b ≡ true
same_table_tells None None e = λ _. true
same_table_tells None (Some b) e = cc
same_table_tells (Some a) None e = cc
same_table_tells (Some a) (Some b) e = (tables-Decide a b).1 (same_Some a b e)

-- the test of tables shows that they are the same, and it fails only where they are not
pub tables_told : (a b : List Table) (changes : List Change) → same_tables a b changes ≡ true → SameTables a b changes
tables_told a b [] e = tt
tables_told a b (change ∷ changes) e =
    let parts = and_parts (same_table (find_table (table_of change) a) (find_table (table_of change) b)) (same_tables a b changes) e in
    (same_table_told (find_table (table_of change) a) (find_table (table_of change) b) parts.0, tables_told a b changes parts.1)

pub tables_tell : (a b : List Table) (changes : List Change) → SameTables a b changes → same_tables a b changes ≡ true
tables_tell a b [] same = λ _. true
tables_tell a b (change ∷ changes) same =
    and_from (same_table (find_table (table_of change) a) (find_table (table_of change) b)) (same_tables a b changes)
    (same_table_tells (find_table (table_of change) a) (find_table (table_of change) b) same.0) (tables_tell a b changes same.1)

-- an install is done, is stale, or out of memory
pub by_outcome : {E P : Type 0} (r : Result InstallOutcome E) → (r ≡ Ok Installed → P) → (r ≡ Ok Stale → P) → ((e : E) → r ≡ Err e → P) → P
by_outcome (Ok Installed) f g h = f (λ _. Ok Installed)
by_outcome (Ok Stale) f g h = g (λ _. Ok Stale)
by_outcome (Err e) f g h = h e (λ _. Err e)

-- what follows whether a call succeeds or not
pub by_either : {A E B C P : Type 0} (r : Result A E) → OnOk r B → OnErr r C → (B → P) → (C → P) → P
by_either (Ok x) b c f g = f b
by_either (Err e) b c f g = g c
