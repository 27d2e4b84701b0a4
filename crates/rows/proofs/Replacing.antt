-- A row in the place of another that carries the same keys.
use Rattle.std.proofs.Common.{◌≡◌, ℕ, Bool, true, false, cond, List, [], ◌∷◌, Option, Some, None, Ok, Err, Result, refl, sym, ap, ◌∙◌}
use Rattle.std.specs.FinMap.{get}
use Rattle.row_images.specs.declared.value.Value.{Value}
use Rattle.rows.specs.declared.change.Key.{Key}
use Rattle.rows.specs.declared.change.RowFault.{RowFault}
use Rattle.rows.specs.Order.{key_eq}
use Rattle.rows.specs.Total.{key_eq_self}
use Rattle.rows.specs.WriteSet.{is_among}
use Rattle.rows.specs.Apply.{Rows, ◌>>=◌, with_row, without_keys, or_else, first_taken, insert_if_free, insert_row, delete_row}
use Rattle.rows.specs.Making.{update_row}
use Rattle.rows.proofs.Local.{same_rows, get-with_row, get-without_keys}
use Rattle.rows.proofs.Patching.{Carrier}
use Rattle.std.proofs.lemmas.Bool.{or_left, or_right}

all_among : (x : Key) (keys : List Key) → is_among (x ∷ keys) x ≡ true
all_among x keys = or_left (key_eq x x) (is_among keys x) (key_eq_self x)

-- ---- the keys of the row that went are free

pub taken_of_free : (keys : List Key) (rows : Rows) → ((k : Key) → is_among keys k ≡ true → get rows k ≡ None) → first_taken keys rows ≡ None
taken_of_free [] rows h = refl
taken_of_free (x ∷ keys) rows h =
    let later = taken_of_free keys rows (λ k e. h k (or_right (key_eq k x) (is_among keys k) e)) in
    let here = h x (all_among x keys) in
    λ i. or_else (later i) (here i) x.index

free_without : (keys : List Key) (rows : Rows) → first_taken keys (without_keys keys rows) ≡ None
free_without keys rows =
    taken_of_free keys (without_keys keys rows) (λ k e. get-without_keys keys rows k ∙ ap (λ (b : Bool). cond b None (get rows k)) e)

-- ---- so the row takes its place

over_gone : (b : Bool) (x y : Carrier) → cond b x (cond b None y) ≡ cond b x y
over_gone true x y = refl
over_gone false x y = refl

placed_over : (keys : List Key) (row : List Value) (rows : Rows) → with_row keys row (without_keys keys rows) ≡ with_row keys row rows
placed_over keys row rows = same_rows _ _ (λ k.
    get-with_row keys row (without_keys keys rows) k
    ∙ ap (cond (is_among keys k) (Some row)) (get-without_keys keys rows k)
    ∙ over_gone (is_among keys k) (Some row) (get rows k)
    ∙ sym (get-with_row keys row rows k))

-- Where the row before can be taken away, one that carries the same keys can take its place.
pub replaced : (n : ℕ) (keys : List Key) (before after : List Value) (rows : Rows) → delete_row n keys before rows ≡ Ok (without_keys keys rows) → update_row n keys before keys after rows ≡ Ok (with_row keys after rows)
replaced n keys before after rows went =
    ap (λ (r : Result Rows RowFault). r >>= insert_row n keys after) went
    ∙ ap (λ (o : Option ℕ). insert_if_free o n keys after (without_keys keys rows)) (free_without keys rows)
    ∙ ap Ok (placed_over keys after rows)

-- Where it can't, the update is refused for the same reason.
pub not_replaced : (n : ℕ) (keys more : List Key) (before after : List Value) (rows : Rows) (fault : RowFault) → delete_row n keys before rows ≡ Err fault → update_row n keys before more after rows ≡ Err fault
not_replaced n keys more before after rows fault e = ap (λ (r : Result Rows RowFault). r >>= insert_row n more after) e

pub replaced_by : (n : ℕ) (keys more : List Key) (before after : List Value) (rows mid : Rows) → delete_row n keys before rows ≡ Ok mid → update_row n keys before more after rows ≡ insert_row n more after mid
replaced_by n keys more before after rows mid e = ap (λ (r : Result Rows RowFault). r >>= insert_row n more after) e
