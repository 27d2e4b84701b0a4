-- Keys that are put or removed in place, one after another.
use Rattle.std.proofs.Common.{◌≡◌, ℕ, Bool, true, false, cond, ◌||◌, List, [], ◌∷◌, ◌++◌, Some, None, IsSomeAnd, Ok, Err, refl, sym, ap, ◌∙◌}
use Rattle.std.specs.FinMap as map
use Rattle.row_images.specs.declared.value.Value.{Value}
use Rattle.row_images.specs.Order.{row_eq}
use Rattle.rows.specs.declared.change.Key.{Key}
use Rattle.rows.specs.declared.change.RowFault.TheVariants.{RowDiffers}
use Rattle.rows.specs.declared.schema.Table.{Table}
use Rattle.rows.specs.declared.steps.Expected.{Expected}
use Rattle.rows.specs.declared.steps.Expected.TheVariants.{Nothing, This, Anything}
use Rattle.rows.specs.Keys.{keys_of_row}
use Rattle.rows.specs.Apply.{Rows, with_row, without_keys, or_else, delete_if_same, delete_row}
use Rattle.rows.specs.Steps.{IsExpected, IsPlaced, primary_key}
use Rattle.rows.specs.WriteSet.{is_among}
use Rattle.rows.proofs.Local.{same_rows, get-with_row, get-without_keys}
use Rattle.rows.proofs.Patching.{Carrier}
use Rattle.rows.proofs.Placed.{among_more, both_put, put_more}

-- ---- more keys after those that were put

pub with_more : (done more : List Key) (row : List Value) (a : Rows) → with_row more row (with_row done row a) ≡ with_row (done ++ more) row a
with_more done more row a = same_rows _ _ (λ k.
    get-with_row more row (with_row done row a) k ∙ ap (cond (is_among more k) (Some row)) (get-with_row done row a k)
    ∙ both_put (is_among done k) (is_among more k) (Some row) (map.get a k)
    ∙ ap (λ q. cond q (Some row) (map.get a k)) (sym (among_more done more k))
    ∙ sym (get-with_row (done ++ more) row a k))

pub placed_more : (free : Bool) (done more : List Key) (row : List Value) (a b c : Rows) → IsPlaced free done row a b → IsPlaced free more row b c → IsPlaced free (done ++ more) row a c
placed_more free done more row a b c first next = (
  next.0 ∙ ap (with_row more row) first.0 ∙ with_more done more row a,
  λ is. (put_more done more row a b c (first.0, first.1 is) (next.0, next.1 is)).1,
)

pub placed_none : (free : Bool) (row : List Value) (a : Rows) → IsPlaced free [] row a a
placed_none free row a = (refl, λ is. refl)

pub placed_one : (free : Bool) (key : Key) (row : List Value) (a b : Rows) (expected : Expected) → (free ≡ true → expected ≡ Nothing) → b ≡ map.insert a key row → IsExpected expected (map.get a key) → IsPlaced free (key ∷ []) row a b
placed_one free key row a b expected first put over = (put, λ is. ap (λ (o : Carrier). or_else None o key.index) (none (map.get a key) expected (first is) over))
  where
    none : (o : Carrier) (expected : Expected) → expected ≡ Nothing → IsExpected expected o → o ≡ None
    none o Nothing is over = over
    none o (This row) is over = absurd cc
    none o Anything is over = absurd cc

-- ---- more keys after those that were removed

both_gone : (p q : Bool) (x : Carrier) → cond q None (cond p None x) ≡ cond (p || q) None x
both_gone true true x = refl
both_gone true false x = refl
both_gone false q x = refl

pub without_more : (done more : List Key) (a : Rows) → without_keys more (without_keys done a) ≡ without_keys (done ++ more) a
without_more done more a = same_rows _ _ (λ k.
    get-without_keys more (without_keys done a) k ∙ ap (cond (is_among more k) None) (get-without_keys done a k)
    ∙ both_gone (is_among done k) (is_among more k) (map.get a k)
    ∙ ap (λ q. cond q None (map.get a k)) (sym (among_more done more k))
    ∙ sym (get-without_keys (done ++ more) a k))

-- ---- changes

same_row : (o : Carrier) (row : List Value) (n : ℕ) (keys : List Key) (a : Rows) → IsSomeAnd o (λ found. row_eq found row ≡ true) → delete_if_same o n keys row a ≡ Ok (without_keys keys a)
same_row None row n keys a is = absurd is
same_row (Some found) row n keys a is = by_test (row_eq found row) is
  where
    by_test : (b : Bool) → b ≡ true → cond b (Ok (without_keys keys a)) (Err (RowDiffers n 0)) ≡ Ok (without_keys keys a)
    by_test true e = refl
    by_test false e = absurd cc

pub deleted : (n : ℕ) (table : Table) (row : List Value) (a : Rows) → IsSomeAnd (map.get a (primary_key table row)) (λ found. row_eq found row ≡ true) → delete_row n (keys_of_row table row) row a ≡ Ok (without_keys (keys_of_row table row) a)
deleted n table row a is = same_row (map.get a (primary_key table row)) row n (keys_of_row table row) a is
