-- What a change does to the counts.
use Rattle.std.proofs.Common.{◌≡◌, ℕ, ◌+◌, Bool, true, false, cond, ◌&&◌, List, [], ◌∷◌, Option, Some, None, Ok, Err, refl, sym, ap, ◌∙◌, subst, arith}
use Rattle.std.specs.FinMap.{get}
use Rattle.std.specs.List.{sum_by}
use Rattle.row_images.specs.declared.value.Value.{Value}
use Rattle.row_images.specs.Order.{row_eq}
use Rattle.row_images.specs.Total.{row_eq_self}
use Rattle.rows.specs.declared.change.Key.{Key}
use Rattle.rows.specs.declared.change.Change.{Change}
use Rattle.rows.specs.declared.change.Change.TheVariants.{Insert, Delete, Update}
use Rattle.rows.specs.declared.change.Transaction.{Transaction}
use Rattle.rows.specs.declared.change.RowFault.TheVariants.{RowDiffers}
use Rattle.rows.specs.declared.schema.Table.{Table}
use Rattle.rows.specs.Keys.{carried_keys}
use Rattle.rows.specs.Apply.{Rows, ◌>>=◌, without_keys, first_taken, first_row, insert_if_free, insert_row, delete_if_same, delete_row, apply_change, apply_from, apply}
use Rattle.rows.specs.WriteSet.{is_among}
use Rattle.rows.specs.Carriers.{AreCarriers}
use Rattle.rows.proofs.Local.{bind_ok, get-with_row, get-without_keys}
use Rattle.rows.proofs.Carriers.{same_ok, insert_free, delete_same, stored_everywhere, all_free, apply_keeps_carriers}
use Rattle.std.proofs.lemmas.List.Sums.{sum_by-cons}
use Rattle.rows.specs.Counting.{one_if, times, count, occurs, taken, given}

-- ---- the counts

given_by : (b : Bool) (row image : List Value) (o : Option (List Value)) → (b ≡ true → o ≡ None) → times image (cond b (Some row) o) ≡ times image o + one_if (b && row_eq row image)
given_by true row image o free = let none : times image o ≡ 0 = ap (times image) (free refl) in omega (arith, none)
given_by false row image o free = omega arith

taken_by : (b : Bool) (row image : List Value) (o : Option (List Value)) → (b ≡ true → o ≡ Some row) → times image (cond b None o) + one_if (b && row_eq row image) ≡ times image o
taken_by true row image o there = let here : times image o ≡ one_if (row_eq row image) = ap (times image) (there refl) in omega (arith, here)
taken_by false row image o there = omega arith

-- What a step leaves: rows of tables, with these counts.
pub record Counts (schema : List Table) (old new : Rows) (key : Key) (image : List Value) (less more : ℕ) : Type 0 where
  pub carriers : AreCarriers schema new
  pub counts : count new key image + less ≡ count old key image + more

inserted : (schema : List Table) (n : ℕ) (table : List ℕ) (row : List Value) (old new : Rows) (key : Key) (image : List Value) → AreCarriers schema old → insert_row n (carried_keys schema table row) row old ≡ Ok new
    → Counts schema old new key image 0 (occurs schema key image table row)
inserted schema n table row old new key image h e =
    let K = carried_keys schema table row in
    let f = insert_free (first_taken K old) n K row old new e in
    let one : Transaction = record { changes = Insert table row ∷ [] } in
    let alone : apply schema one old ≡ Ok new = ap (λ o. insert_if_free o 0 K row old >>= apply_from schema 1 []) f.0 ∙ ap Ok f.1 in
    let here = given_by (is_among K key) row image (get old key) (all_free K old f.0 key) in
    let at : count new key image ≡ times image (cond (is_among K key) (Some row) (get old key)) = ap (λ (x : Rows). count x key image) (sym f.1) ∙ ap (times image) (get-with_row K row old key) in
    record { carriers = apply_keeps_carriers schema one old new h alone; counts = omega (arith, at, here) }

deleted : (schema : List Table) (n : ℕ) (table : List ℕ) (row : List Value) (old new : Rows) (key : Key) (image : List Value) → AreCarriers schema old → delete_row n (carried_keys schema table row) row old ≡ Ok new
    → Counts schema old new key image (occurs schema key image table row) 0
deleted schema n table row old new key image h e =
    let K = carried_keys schema table row in
    let f = delete_same (first_row K old) n K row old new e in
    let one : Transaction = record { changes = Delete table row ∷ [] } in
    let alone : apply schema one old ≡ Ok new = ap (λ o. delete_if_same o 0 K row old >>= apply_from schema 1 []) f.0 ∙ (ap (λ b. cond b (Ok (without_keys K old)) (Err (RowDiffers 0 0)) >>= apply_from schema 1 []) (row_eq_self row) ∙ ap Ok f.1) in
    let here = taken_by (is_among K key) row image (get old key) (stored_everywhere schema table row old K refl h f.0 key) in
    let at : count new key image ≡ times image (cond (is_among K key) None (get old key)) = ap (λ (x : Rows). count x key image) (sym f.1) ∙ ap (times image) (get-without_keys K old key) in
    record { carriers = apply_keeps_carriers schema one old new h alone; counts = omega (arith, at, here) }

-- ---- a change, and changes in turn

changed : (schema : List Table) (n : ℕ) (c : Change) (old new : Rows) (key : Key) (image : List Value) → AreCarriers schema old → apply_change schema n c old ≡ Ok new
    → Counts schema old new key image (taken schema key image c) (given schema key image c)
changed schema n (Insert table after) old new key image h e = inserted schema n table after old new key image h e
changed schema n (Delete table before) old new key image h e = deleted schema n table before old new key image h e
changed schema n (Update table before after) old new key image h e =
    let mid = bind_ok (delete_row n (carried_keys schema table before) before old) (insert_row n (carried_keys schema table after) after) new e in
    let first = deleted schema n table before old mid.0 key image h mid.1 in
    let second = inserted schema n table after mid.0 new key image first.carriers mid.2 in
    record { carriers = second.carriers; counts = omega (arith, first.counts, second.counts) }

pub changed_in_turn : (schema : List Table) (n : ℕ) (cs : List Change) (old new : Rows) (key : Key) (image : List Value) → AreCarriers schema old → apply_from schema n cs old ≡ Ok new
    → Counts schema old new key image (sum_by (taken schema key image) cs) (sum_by (given schema key image) cs)
changed_in_turn schema n [] old new key image h e =
    let same : old ≡ new = same_ok old new e in
    record { carriers = subst (AreCarriers schema) same h; counts = ap (λ (x : Rows). count x key image + 0) (sym same) }
changed_in_turn schema n (c ∷ cs) old new key image h e =
    let mid = bind_ok (apply_change schema n c old) (apply_from schema (n + 1) cs) new e in
    let first = changed schema n c old mid.0 key image h mid.1 in
    let rest = changed_in_turn schema (n + 1) cs mid.0 new key image first.carriers mid.2 in
    record {
      carriers = rest.carriers;
      counts = omega (arith, first.counts, rest.counts, sum_by-cons (taken schema key image) c cs, sum_by-cons (given schema key image) c cs);
    }
