-- Rows are decided by what was put and taken.
use Rattle.std.proofs.Common.{◌≡◌, ℕ, ◌+◌, Bool, true, false, List, [], ◌∷◌, Option, Some, None, Ok, refl, sym, ap, ◌∙◌, subst, arith}
use Rattle.std.specs.FinMap.{get}
use Rattle.std.specs.List.{sum_by}
use Rattle.std.specs.List.Sorted.{IsPermutation}
use Rattle.row_images.specs.declared.value.Value.{Value}
use Rattle.row_images.specs.Order.{row_eq}
use Rattle.row_images.specs.Total.{row_eq_same, row_eq_self}
use Rattle.rows.specs.declared.change.Key.{Key}
use Rattle.rows.specs.declared.change.Change.{Change}
use Rattle.rows.specs.declared.change.Transaction.{Transaction}
use Rattle.rows.specs.declared.schema.Table.{Table}
use Rattle.rows.specs.Apply.{Rows, apply}
use Rattle.rows.specs.Carriers.{AreCarriers}
use Rattle.rows.proofs.Local.{same_rows, bind_ok}
use Rattle.std.proofs.lemmas.List.Sums.{sum_by-append, sum_by-cons}
use Rattle.std.proofs.lemmas.List.Sorted.{sum_by-IsPermutation}
use Rattle.rows.specs.Counting.{apply_each, one_if, times, count, taken, given, changes_of, all_taken, all_given}
use Rattle.rows.specs.Counted.{RowsAreCounted, BalancesDecideRows, ChangesDecideRows, OrderIsNoMatter}
use Rattle.rows.proofs.Carriers.{same_ok, both_ways}
use Rattle.rows.proofs.Counting.{Counts, changed_in_turn}

applied : (schema : List Table) (ts : List Transaction) (old new : Rows) (key : Key) (image : List Value) → AreCarriers schema old → apply_each schema ts old ≡ Ok new
    → Counts schema old new key image (all_taken schema key image ts) (all_given schema key image ts)
applied schema [] old new key image h e =
    let same : old ≡ new = same_ok old new e in
    record { carriers = subst (AreCarriers schema) same h; counts = ap (λ (x : Rows). count x key image + 0) (sym same) }
applied schema (t ∷ ts) old new key image h e =
    let mid = bind_ok (apply schema t old) (apply_each schema ts) new e in
    let first = changed_in_turn schema 0 t.changes old mid.0 key image h mid.1 in
    let rest = applied schema ts mid.0 new key image first.carriers mid.2 in
    record {
      carriers = rest.carriers;
      counts = omega (arith, first.counts, rest.counts, sum_by-append (taken schema key image) t.changes (changes_of ts), sum_by-append (given schema key image) t.changes (changes_of ts));
    }

pub rows_are_counted : RowsAreCounted
rows_are_counted schema ts old new h e key image = (applied schema ts old new key image h e).counts

-- ---- counts decide rows

once : (row : List Value) (o : Option (List Value)) → times row o ≡ 1 → o ≡ Some row
once row None e = cc
once row (Some x) e = by (row_eq x row) refl e
  where
    by : (b : Bool) → row_eq x row ≡ b → one_if b ≡ 1 → Some x ≡ Some row
    by true is c = ap Some (row_eq_same x row is)
    by false is c = cc

there_too : (a b : Rows) (k : Key) → ((image : List Value) → count a k image ≡ count b k image) → (row : List Value) → get a k ≡ Some row → get b k ≡ Some row
there_too a b k same row e =
    once row (get b k) (sym (same row) ∙ (ap (times row) e ∙ ap one_if (row_eq_self row)))

pub counts_decide : (a b : Rows) → ((k : Key) (image : List Value) → count a k image ≡ count b k image) → a ≡ b
counts_decide a b same =
    same_rows a b (λ k. both_ways (get a k) (get b k) (there_too a b k (same k)) (there_too b a k (λ image. sym (same k image))))

pub balances_decide_rows : BalancesDecideRows
balances_decide_rows schema ts us rows a b h even e f = counts_decide a b (λ k image.
    let x = rows_are_counted schema ts rows a h e k image in
    let y = rows_are_counted schema us rows b h f k image in
    omega (arith, x, y, even k image))

pub changes_decide_rows : ChangesDecideRows
changes_decide_rows schema ts us rows a b h moved = balances_decide_rows schema ts us rows a b h (λ k image.
    let x = sum_by-IsPermutation (taken schema k image) (changes_of ts) (changes_of us) moved in
    let y = sum_by-IsPermutation (given schema k image) (changes_of ts) (changes_of us) moved in
    omega (arith, x, y))

-- ---- transactions

by_transaction : (f : Change → ℕ) (ts : List Transaction) → sum_by f (changes_of ts) ≡ sum_by (λ (t : Transaction). sum_by f t.changes) ts
by_transaction f [] = refl
by_transaction f (t ∷ ts) =
    sum_by-append f t.changes (changes_of ts)
    ∙ (ap (λ n. sum_by f t.changes + n) (by_transaction f ts) ∙ sym (sum_by-cons (λ (u : Transaction). sum_by f u.changes) t ts))

moved_sum : (f : Change → ℕ) (ts us : List Transaction) → IsPermutation ts us → sum_by f (changes_of us) ≡ sum_by f (changes_of ts)
moved_sum f ts us moved = by_transaction f us ∙ (sum_by-IsPermutation (λ (t : Transaction). sum_by f t.changes) ts us moved ∙ sym (by_transaction f ts))

pub order_is_no_matter : OrderIsNoMatter
order_is_no_matter schema ts us rows a b h moved = balances_decide_rows schema ts us rows a b h (λ k image.
    let x = moved_sum (taken schema k image) ts us moved in
    let y = moved_sum (given schema k image) ts us moved in
    omega (arith, x, y))
