-- Rows that agree in all columns of keys carry the same keys.
use Rattle.std.proofs.Common.{◌≡◌, ℕ, ◌+◌, Bool, true, false, get_or, cond, length, List, [], ◌∷◌, ◌++◌, Option, Some, None, Result, Ok, Err, refl, sym, ap, ◌∙◌}
use Rattle.std.specs.Prelude.{OnOk}
use Rattle.std.specs.List.{list_any, list_all}
use Rattle.std.specs.Ordering.{eq_by_cmp}
use Rattle.std.specs.FinMap.{get, insert, get-insert}
use Rattle.std.proofs.lemmas.Bool.{and_parts}
use Rattle.std.proofs.lemmas.List.{length-append}
use Rattle.row_images.specs.declared.value.Value.{Value}
use Rattle.row_images.specs.declared.value.Value.TheVariants.{Null}
use Rattle.row_images.specs.Order.{value_cmp}
use Rattle.row_images.specs.Values.{is_null}
use Rattle.row_images.proofs.Equal.{values-Decide}
use Rattle.rows.specs.declared.change.Key.{Key}
use Rattle.rows.specs.declared.schema.Table.{Table}
use Rattle.rows.specs.Keys.{values_in, unique_keys, find_table, keys_in, carried_keys}
use Rattle.rows.specs.Making.{same_in, keeps_keys, update_row}
use Rattle.rows.specs.Order.{key_eq}
use Rattle.rows.specs.declared.change.Change.{Change}
use Rattle.rows.specs.declared.change.Change.TheVariants.{Update}
use Rattle.rows.specs.declared.change.RowFault.{RowFault}
use Rattle.rows.specs.Apply.{Rows, ◌>>=◌, with_row, apply_change, apply_from}
use Rattle.rows.specs.Total.{key_total}
use Rattle.rows.proofs.Local.{same_rows}
use Rattle.rows.proofs.Patching.{Carrier}

kept_values : (columns : List ℕ) (a b : List Value) → same_in a b columns ≡ true → values_in columns a ≡ values_in columns b
kept_values [] a b e = refl
kept_values (c ∷ columns) a b e =
    let p = and_parts (eq_by_cmp value_cmp (get_or a c Null) (get_or b c Null)) (same_in a b columns) e in
    let here : get_or a c Null ≡ get_or b c Null = (values-Decide (get_or a c Null) (get_or b c Null)).0 p.0 in
    let later = kept_values columns a b p.1 in
    λ i. here i ∷ later i

kept_uniques : (name : List ℕ) (n : ℕ) (lists : List (List ℕ)) (a b : List Value) → list_all (same_in a b) lists ≡ true → unique_keys name n lists a ≡ unique_keys name n lists b
kept_uniques name n [] a b e = refl
kept_uniques name n (c ∷ lists) a b e =
    let p = and_parts (same_in a b c) (list_all (same_in a b) lists) e in
    let here = kept_values c a b p.0 in
    let later = kept_uniques name (n + 1) lists a b p.1 in
    λ i. cond (list_any is_null (here i)) (later i) (record { table = name; index = n; values = here i } ∷ later i)

kept_in : (found : Option Table) (a b : List Value) → keeps_keys a b found ≡ true → keys_in found a ≡ keys_in found b
kept_in None a b e = refl
kept_in (Some table) a b e =
    let p = and_parts (same_in a b table.primary) (list_all (same_in a b) table.uniques) e in
    let here = kept_values table.primary a b p.0 in
    let later = kept_uniques table.name 1 table.uniques a b p.1 in
    λ i. record { table = table.name; index = 0; values = here i } ∷ later i

pub kept : (schema : List Table) (name : List ℕ) (a b : List Value) → keeps_keys a b (find_table name schema) ≡ true → carried_keys schema name a ≡ carried_keys schema name b
kept schema name a b e = kept_in (find_table name schema) a b e

-- so an update puts the after image under the keys of the before image
pub kept_updated : (schema : List Table) (name : List ℕ) (n : ℕ) (a b : List Value) (rows : Rows) → keeps_keys a b (find_table name schema) ≡ true
    → apply_change schema n (Update name a b) rows ≡ update_row n (carried_keys schema name a) a (carried_keys schema name a) b rows
kept_updated schema name n a b rows e = ap (λ (ks : List Key). update_row n (carried_keys schema name a) a ks b rows) (sym (kept schema name a b e))

nothing_more : (schema : List Table) (r : Result Rows RowFault) → (r >>= apply_from schema 1 []) ≡ r
nothing_more schema (Ok rows) = refl
nothing_more schema (Err fault) = refl

-- a transaction of that update alone
pub kept_alone : (schema : List Table) (name : List ℕ) (a b : List Value) (rows : Rows) (changes : List Change) (r : Result Rows RowFault)
    → changes ≡ Update name a b ∷ [] → keeps_keys a b (find_table name schema) ≡ true
    → update_row 0 (carried_keys schema name a) a (carried_keys schema name a) b rows ≡ r → apply_from schema 0 changes rows ≡ r
kept_alone schema name a b rows changes r is e made =
    ap (λ (cs : List Change). apply_from schema 0 cs rows) is
    ∙ ap (λ (x : Result Rows RowFault). x >>= apply_from schema 1 []) (kept_updated schema name 0 a b rows e ∙ made)
    ∙ nothing_more schema r

pub on_ok : {A E P Q : Type 0} (r : Result A E) → OnOk r P → (P → Q) → OnOk r Q
on_ok (Ok x) p f = f p
on_ok (Err e) p f = tt

-- ---- one row under several keys, in whatever order

either_first : (p q : Bool) (x y : Carrier) → cond p x (cond q x y) ≡ cond q x (cond p x y)
either_first true true x y = refl
either_first true false x y = refl
either_first false q x y = refl

insert_first : (j k : Key) (row : List Value) (m : Rows) → insert (insert m j row) k row ≡ insert (insert m k row) j row
insert_first j k row m = same_rows _ _ (λ q.
    get-insert key_total (insert m j row) k row q ∙ ap (cond (key_eq q k) (Some row)) (get-insert key_total m j row q)
    ∙ either_first (key_eq q k) (key_eq q j) (Some row) (get m q)
    ∙ sym (get-insert key_total (insert m k row) j row q ∙ ap (cond (key_eq q j) (Some row)) (get-insert key_total m k row q)))

pub with_row_first : (keys : List Key) (k : Key) (row : List Value) (m : Rows) → insert (with_row keys row m) k row ≡ with_row keys row (insert m k row)
with_row_first [] k row m = refl
with_row_first (x ∷ keys) k row m = insert_first x k row (with_row keys row m) ∙ ap (λ (n : Rows). insert n x row) (with_row_first keys k row m)

pub one_fewer : (keys rest : List Key) (k : Key) → keys ≡ rest ++ k ∷ [] → length keys ≡ length rest + 1
one_fewer keys rest k e = ap length e ∙ length-append rest (k ∷ [])
