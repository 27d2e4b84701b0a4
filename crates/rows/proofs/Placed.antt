-- A row that is put under free keys, one after another.
use Rattle.std.proofs.Common.{◌≡◌, ℕ, suc, ◌+◌, Bool, true, false, cond, not, ◌||◌, ◌<◌, length, take, get_or, List, [], ◌∷◌, ◌++◌, Option, Some, None, Ok, refl, sym, ap, ◌∙◌, inl, inr, append_assoc, arith}
use Rattle.std.specs.List.{list_any, position_or_len}
use Rattle.std.specs.Map.{lookup, keys_of}
use Rattle.std.specs.FinMap.{get}
use Rattle.std.proofs.Math.Seq.{take-append_seam}
use Rattle.std.proofs.Math.Nat.{min-eq_left}
use Rattle.std.proofs.lemmas.List.{take_more, length-take}
use Rattle.std.proofs.lemmas.Bool.{or_cases}
use Rattle.std.proofs.lemmas.Option.{same_Some}
use Rattle.lemmas.proofs.Options.{none_some}
use Rattle.lemmas.proofs.Numbers.{less_le}
use Rattle.indexmap.specs.IndexMap.{insert_entry, set_value_at}
use Rattle.row_images.specs.declared.value.Value.{Value}
use Rattle.row_images.specs.Values.{is_null}
use Rattle.rows.specs.declared.change.Key.{Key}
use Rattle.rows.specs.Order.{key_eq}
use Rattle.rows.specs.Keys.{values_in, unique_keys}
use Rattle.rows.specs.Apply.{Rows, insert_if_free, insert_row}
use Rattle.rows.specs.Making.{IsPut, Extends}
use Rattle.rows.specs.WriteSet.{is_among}
use Rattle.rows.proofs.Carriers.{all_free}
use Rattle.rows.proofs.Equal.{key_test}
use Rattle.rows.proofs.Local.{same_rows, get-with_row}
use Rattle.rows.proofs.Patching.{Carrier}
use Rattle.rows.proofs.Replacing.{taken_of_free}

-- ---- more keys after those that were put

pub among_more : (xs ys : List Key) (k : Key) → is_among (xs ++ ys) k ≡ (is_among xs k || is_among ys k)
among_more [] ys k = refl
among_more (x ∷ xs) ys k = ap (λ b. key_eq k x || b) (among_more xs ys k) ∙ or_assoc (key_eq k x) (is_among xs k) (is_among ys k)
  where
    or_assoc : (p q r : Bool) → (p || (q || r)) ≡ ((p || q) || r)
    or_assoc true q r = refl
    or_assoc false q r = refl

pub both_put : (p q : Bool) (x y : Carrier) → cond q x (cond p x y) ≡ cond (p || q) x y
both_put true true x y = refl
both_put true false x y = refl
both_put false q x y = refl

free_before : (p : Bool) (row : List Value) (o : Carrier) → cond p (Some row) o ≡ None → o ≡ None
free_before true row o e = none_some row (sym e)
free_before false row o e = e

pub put_more : (done more : List Key) (row : List Value) (a b c : Rows) → IsPut done row a b → IsPut more row b c → IsPut (done ++ more) row a c
put_more done more row a b c first next =
    let at : (k : Key) → get b k ≡ cond (is_among done k) (Some row) (get a k) = λ k. ap (λ (m : Rows). get m k) first.0 ∙ get-with_row done row a k in
    let free : (k : Key) → is_among (done ++ more) k ≡ true → get a k ≡ None = λ k i.
    elim (or_cases (is_among done k) (is_among more k) (sym (among_more done more k) ∙ i)) [
      | inl early ↦ all_free done a first.1 k early
      | inr late ↦ free_before (is_among done k) row (get a k) (sym (at k) ∙ all_free more b next.1 k late)
    ] in (
      same_rows _ _ (λ k.
          ap (λ (m : Rows). get m k) next.0 ∙ get-with_row more row b k ∙ ap (cond (is_among more k) (Some row)) (at k)
          ∙ both_put (is_among done k) (is_among more k) (Some row) (get a k)
          ∙ ap (λ q. cond q (Some row) (get a k)) (sym (among_more done more k))
          ∙ sym (get-with_row (done ++ more) row a k)),
      taken_of_free (done ++ more) a free,
    )

pub put_inserted : (n : ℕ) (keys : List Key) (row : List Value) (a b : Rows) → IsPut keys row a b → insert_row n keys row a ≡ Ok b
put_inserted n keys row a b put = ap (λ (o : Option ℕ). insert_if_free o n keys row a) put.1 ∙ ap Ok (sym put.0)

pub none_put : (row : List Value) (a : Rows) → IsPut [] row a a
none_put row a = (refl, refl)

-- ---- the unique keys, up to one of them

skipped : (b : Bool) (k : Key) (xs ys : List Key) → cond b (xs ++ ys) (k ∷ xs ++ ys) ≡ cond b xs (k ∷ xs) ++ ys
skipped true k xs ys = refl
skipped false k xs ys = refl

uniques_append : (name : List ℕ) (n m : ℕ) (xs ys : List (List ℕ)) (row : List Value) → m ≡ n + length xs → unique_keys name n (xs ++ ys) row ≡ unique_keys name n xs row ++ unique_keys name m ys row
uniques_append name n m [] ys row e = ap (λ k. unique_keys name k ys row) (sym (omega (arith, e)))
uniques_append name n m (x ∷ xs) ys row e =
    let k : Key = record { table = name; index = n; values = values_in x row } in
    let b = list_any is_null (values_in x row) in
    let later = uniques_append name (n + 1) m xs ys row (omega (arith, e)) in
    ap (λ ks. cond b ks (k ∷ ks)) later ∙ skipped b k (unique_keys name (n + 1) xs row) (unique_keys name m ys row)

pub uniques_taken : (name : List ℕ) (i : ℕ) (columns : List (List ℕ)) (c : List ℕ) (row : List Value) → i < length columns → c ≡ get_or columns i c
    → unique_keys name 1 (take (i + 1) columns) row ≡ unique_keys name 1 (take i columns) row ++ unique_keys name (i + 1) (c ∷ []) row
uniques_taken name i columns c row lt is =
    ap (λ (cs : List (List ℕ)). unique_keys name 1 cs row) (take_more columns i c lt ∙ ap (λ (x : List ℕ). take i columns ++ x ∷ []) (sym is))
    ∙ uniques_append name 1 (i + 1) (take i columns) (c ∷ []) row (omega (arith, length-take i columns, min-eq_left (less_le i (length columns) lt)))

-- ---- entries

pub extends_more : (a b c : List (Key × List Value)) → Extends a b → Extends b c → Extends a c
extends_more a b c first next = (first.0 ++ next.0, next.1 ∙ ap (λ es. es ++ next.0) first.1 ∙ append_assoc a first.0 next.0)

pub extends_itself : (a b : List (Key × List Value)) → b ≡ a → Extends a b
extends_itself a b e = ([], e ∙ sym (nothing a))
  where
    nothing : (es : List (Key × List Value)) → es ++ [] ≡ es
    nothing [] = refl
    nothing (x ∷ es) = ap (λ (l : List (Key × List Value)). x ∷ l) (nothing es)

pub cut_back : (a b : List (Key × List Value)) → Extends a b → take (length a) b ≡ a
cut_back a b more = ap (take (length a)) more.1 ∙ take-append_seam a more.0

-- a key that was there has its place, and its row can be put back
set_by : (b : Bool) (e : Key × List Value) (es : List (Key × List Value)) (k : Key) (row over : List Value) → cond b (Some e.1) (lookup (key_test k) es) ≡ Some over
    → (lookup (key_test k) es ≡ Some over → set_value_at (insert_entry key_test es k row) (position_or_len (key_test k) (keys_of es)) over ≡ es)
    → set_value_at (cond b ((e.0, row) ∷ es) (e ∷ insert_entry key_test es k row)) (cond (not b) (1 + position_or_len (key_test k) (keys_of es)) 0) over ≡ e ∷ es
set_by true e es k row over found later = let was : e.1 ≡ over = same_Some e.1 over found in λ i. (e.0, sym was i) ∷ es
set_by false e es k row over found later =
    let p = position_or_len (key_test k) (keys_of es) in
    let one : 1 + p ≡ suc p = omega arith in
    ap (λ j. set_value_at (e ∷ insert_entry key_test es k row) j over) one ∙ ap (λ (l : List (Key × List Value)). e ∷ l) (later found)

pub set_back : (es : List (Key × List Value)) (k : Key) (row over : List Value) → lookup (key_test k) es ≡ Some over → set_value_at (insert_entry key_test es k row) (position_or_len (key_test k) (keys_of es)) over ≡ es
set_back [] k row over e = none_some over e
set_back (e ∷ es) k row over found = set_by (key_test k e.0) e es k row over found (set_back es k row over)
