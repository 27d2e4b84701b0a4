-- The parts of a whole, listed together.
use Rattle.std.proofs.Common.{◌≡◌, ℕ, zero, suc, ◌+◌, ◌<◌, Bool, true, false, not, inl, inr, cond, List, [], ◌∷◌, length, Option, Some, None, IsPermutation, IsSortedByKey, refl, ap, sym, ◌∙◌, subst, arith}
use Rattle.std.specs.Prelude.{slice_get}
use Rattle.std.specs.Borrow.{Bor}
use Rattle.std.specs.FinMap.{get, retain_keys, get-retain_keys}
use Rattle.std.specs.List.{IsDistinct, list_all}
use Rattle.std.specs.Map.{keys_of}
use Rattle.std.specs.Map.Iter.{deref_pair}
use Rattle.std.proofs.lemmas.Bool.{and_cases, not-true, not-false, both_ways}
use Rattle.std.proofs.lemmas.List.Sorted.{IsPermutation-map}
use Rattle.std.proofs.lemmas.Map.Entries.{option_filter}
use Rattle.std.proofs.lemmas.Map.Made.{IsDistinct-keys_filter}
use Rattle.std.proofs.lemmas.Option.{none-some, slice_get_cases, slice_get_past, slice_get_within}
use Rattle.lemmas.proofs.Options.{none_where as none_if}
use Rattle.lemmas.proofs.Lists.{all_true}
use Rattle.row_images.specs.declared.value.Value.{Value}
use Rattle.row_images.proofs.Equal.{rows-Decide}
use Rattle.rows.specs.declared.change.Key.{Key}
use Rattle.rows.specs.Apply.{Rows}
use Rattle.rows.specs.Listing.{is_primary, key_shown, all_shown, entries_listed, rows_of, rows_listed}
use Rattle.rows.specs.Order.{key_cmp}
use Rattle.rows.specs.Parts.{AreParts}
use Rattle.rows.specs.Patch.{same_row}
use Rattle.rows.proofs.Equal.{key_test}
use Rattle.rows.proofs.Ordered.{keys_sorted, sorted_entries}
use Rattle.rows.proofs.Primary.{alike, rows-retained}
use Rattle.row_parts.specs.Listing.{changed_entries, kept_entries, entries_of, entries_at, joined_before}
use Rattle.row_parts.proofs.Apart.{row_under, same_option, filter_some, listed_apart, under_listed, under_filter, from_before, none_before, before_apart}

-- ---- tests

same_row_true : (o : Option (List Value)) (r : List Value) → same_row o (Some r) ≡ true → o ≡ Some r
same_row_true None r e = cc
same_row_true (Some a) r e = ap Some ((rows-Decide a r).0 e)

same_row_is : (o : Option (List Value)) (r : List Value) → o ≡ Some r → same_row o (Some r) ≡ true
same_row_is o r e = ap (λ x. same_row x (Some r)) e ∙ (rows-Decide r r).1 refl

filter_none : {A : Type 0} (t : A → Bool) (o : Option A) (x : A) → o ≡ Some x → option_filter t o ≡ None → t x ≡ false
filter_none t o x s e = failed (t x) x (sym (ap (option_filter t) s) ∙ e) where
  failed : {A : Type 0} (b : Bool) (x : A) → cond b (Some x) None ≡ None → b ≡ false
  failed true x e = absurd (none-some x (sym e))
  failed false x e = refl

one_fails : {A : Type 0} (p : A → Bool) (xs : List A) → list_all p xs ≡ false → (i : ℕ) × (x : A) × (slice_get xs i ≡ Some x) × (p x ≡ false)
one_fails p [] e = cc
one_fails p (x ∷ xs) e =
    let later = one_fails p xs in
    elim (and_cases (p x) (list_all p xs) e) [
      | inl here ↦ (zero, x, refl, here)
      | inr h ↦ let f = later h in (suc f.0, f.1, f.2, f.3)
    ]

-- ---- what is listed

listed_some : (rows : Rows) (q : Key) (r : List Value) → row_under q (entries_listed rows) ≡ Some r → (is_primary q ≡ true) × (get rows q ≡ Some r)
listed_some rows q r e = given (is_primary q) (get rows q) r (sym (under_listed rows q) ∙ e) where
  given : {A : Type 0} (b : Bool) (o : Option A) (r : A) → cond b o None ≡ Some r → (b ≡ true) × (o ≡ Some r)
  given true o r e = (refl, e)
  given false o r e = absurd (none-some r e)

is_listed : (rows : Rows) (q : Key) (r : List Value) → is_primary q ≡ true → get rows q ≡ Some r → row_under q (entries_listed rows) ≡ Some r
is_listed rows q r p e = under_listed rows q ∙ ap (λ b. cond b (get rows q) None) p ∙ e

changed_some : (opening part : Rows) (q : Key) (r : List Value) → row_under q (changed_entries opening part) ≡ Some r
    → (is_primary q ≡ true) × (get part q ≡ Some r) × (get opening q ≡ Some r → ⊥)
changed_some opening part q r e =
    let t : Key × List Value → Bool = λ f. not (same_row (get opening f.0) (Some f.1)) in
    let f = filter_some (λ x. t (q, x)) (row_under q (entries_listed part)) r (sym (under_filter t q (entries_listed part) (listed_apart part)) ∙ e) in
    let l = listed_some part q r f.0 in
    (l.0, l.1, λ o. both_ways (same_row (get opening q) (Some r)) (not-true (same_row (get opening q) (Some r)) f.1) (same_row_is (get opening q) r o))

changed_none : (opening part : Rows) (q : Key) (r : List Value) → row_under q (changed_entries opening part) ≡ None → is_primary q ≡ true → get part q ≡ Some r → get opening q ≡ Some r
changed_none opening part q r e p s =
    let t : Key × List Value → Bool = λ f. not (same_row (get opening f.0) (Some f.1)) in
    let f = filter_none (λ x. t (q, x)) (row_under q (entries_listed part)) r (is_listed part q r p s) (sym (under_filter t q (entries_listed part) (listed_apart part)) ∙ e) in
    same_row_true (get opening q) r (not-false (same_row (get opening q) (Some r)) f)

kept_some : (opening : Rows) (parts : List Rows) (q : Key) (r : List Value) → row_under q (kept_entries opening parts) ≡ Some r
    → (is_primary q ≡ true) × (get opening q ≡ Some r) × ((i : ℕ) (part : Rows) → slice_get parts i ≡ Some part → get part q ≡ Some r)
kept_some opening parts q r e =
    let t : Key × List Value → Bool = λ f. list_all (λ p. same_row (get p f.0) (Some f.1)) parts in
    let f = filter_some (λ x. t (q, x)) (row_under q (entries_listed opening)) r (sym (under_filter t q (entries_listed opening) (listed_apart opening)) ∙ e) in
    let l = listed_some opening q r f.0 in
    (l.0, l.1, λ i part s. same_row_true (get part q) r (all_true (λ p. same_row (get p q) (Some r)) parts i part f.1 s))

kept_none : (opening : Rows) (parts : List Rows) (q : Key) (r : List Value) → row_under q (kept_entries opening parts) ≡ None → is_primary q ≡ true → get opening q ≡ Some r
    → (i : ℕ) × (part : Rows) × (slice_get parts i ≡ Some part) × (get part q ≡ Some r → ⊥)
kept_none opening parts q r e p s =
    let t : Key × List Value → Bool = λ f. list_all (λ p. same_row (get p f.0) (Some f.1)) parts in
    let f = filter_none (λ x. t (q, x)) (row_under q (entries_listed opening)) r (is_listed opening q r p s) (sym (under_filter t q (entries_listed opening) (listed_apart opening)) ∙ e) in
    let w = one_fails (λ p. same_row (get p q) (Some r)) parts f in
    (w.0, w.1, w.2, λ o. both_ways (same_row (get w.1 q) (Some r)) w.3 (same_row_is (get w.1 q) r o))

-- ---- the whole

module _ (opening : Rows) (parts : List Rows) (whole : Rows) (are : AreParts opening parts whole) where
  -- what is in one of the lists is in the whole
  listed_in_whole : (i : ℕ) (o : Option Rows) (q : Key) (r : List Value) → slice_get parts i ≡ o → row_under q (entries_of opening parts o) ≡ Some r → (is_primary q ≡ true) × (get whole q ≡ Some r)
  listed_in_whole i (Some part) q r s e =
      let c = changed_some opening part q r e in (
        c.0,
        elim (are.each q i part s) [
          | inl same ↦ absurd (c.2 (sym same ∙ c.1))
          | inr there ↦ sym there ∙ c.1
        ],
      )
  listed_in_whole i None q r s e =
      let k = kept_some opening parts q r e in (
        k.0,
        elim (are.some q) [
          | inl same ↦ same ∙ k.1
          | inr w ↦ sym w.3 ∙ k.2 w.0 w.1 w.2
        ],
      )

  -- where the whole has an opening row, a list has it
  opening_row : (q : Key) (r : List Value) → is_primary q ≡ true → row_under q (kept_entries opening parts) ≡ None → get opening q ≡ Some r → get whole q ≡ Some r → ⊥
  opening_row q r p none o h =
      let w = kept_none opening parts q r none p o in
      elim (are.each q w.0 w.1 w.2) [
        | inl same ↦ w.3 (same ∙ o)
        | inr there ↦ w.3 (there ∙ h)
      ]

  at_place : (q : Key) (i : ℕ) (o : Option Rows) → slice_get parts i ≡ o → row_under q (entries_at opening parts i) ≡ row_under q (entries_of opening parts o)
  at_place q i o s = ap (λ x. row_under q (entries_of opening parts x)) s

  -- what is in none of the lists is not in the whole
  unlisted_nowhere : (q : Key) → is_primary q ≡ true → ((i : ℕ) → i < length parts + 1 → row_under q (entries_at opening parts i) ≡ None) → get whole q ≡ None
  unlisted_nowhere q p none =
      let kept = sym (at_place q (length parts) None (slice_get_past parts (length parts) (omega arith))) ∙ none (length parts) (omega arith) in
      none_if (get whole q) (λ r h. elim (are.some q) [
        | inl same ↦ opening_row q r p kept (sym same ∙ h) h
        | inr w ↦
            let within : w.0 < length parts + 1 = let l = slice_get_within parts w.0 w.1 w.2 in omega (l, arith) in
            let o = changed_none opening w.1 q r (sym (at_place q w.0 (Some w.1) w.2) ∙ none w.0 within) p (w.3 ∙ h) in
            opening_row q r p kept o h
      ])

  two_apart : (i j : ℕ) (part : Rows) (o : Option Rows) (q : Key) (a b : List Value) → (i ≡ j → ⊥) → slice_get parts i ≡ Some part → slice_get parts j ≡ o
      → row_under q (changed_entries opening part) ≡ Some a → row_under q (entries_of opening parts o) ≡ Some b → ⊥
  two_apart i j part (Some other) q a b differ s t f g =
      let c = changed_some opening part q a f in
      let d = changed_some opening other q b g in
      elim (are.apart i j part other differ s t q) [
        | inl same ↦ c.2 (sym same ∙ c.1)
        | inr same ↦ d.2 (sym same ∙ d.1)
      ]
  two_apart i j part None q a b differ s t f g =
      let c = changed_some opening part q a f in
      let k = kept_some opening parts q b g in
      c.2 (k.1 ∙ sym (k.2 i part s) ∙ c.1)

  places_apart : (i j : ℕ) → i < j → j < length parts + 1 → (q : Key) (a b : List Value) → row_under q (entries_at opening parts i) ≡ Some a → row_under q (entries_at opening parts j) ≡ Some b → ⊥
  places_apart i j l m q a b f g =
      elim (slice_get_cases parts i).1 [
        | inl w ↦ two_apart i j w.0 (slice_get parts j) q a b (λ e. absurd (omega (e, l, arith))) w.2 refl (sym (at_place q i (Some w.0) w.2) ∙ f) g
        | inr past ↦ let high = past.0 in absurd (omega (high, l, m, arith))
      ]

  each_apart : (o : Option Rows) → IsDistinct key_test (keys_of (entries_of opening parts o))
  each_apart (Some part) = IsDistinct-keys_filter key_test (λ e. not (same_row (get opening e.0) (Some e.1))) (entries_listed part) (listed_apart part)
  each_apart None = IsDistinct-keys_filter key_test (λ e. list_all (λ p. same_row (get p e.0) (Some e.1)) parts) (entries_listed opening) (listed_apart opening)

  none_where : {A : Type 0} (b : Bool) (o : Option A) → (b ≡ true → o ≡ None) → cond b o None ≡ None
  none_where true o h = h refl
  none_where false o h = refl

  under_all : (q : Key) → row_under q (joined_before (entries_at opening parts) (length parts + 1)) ≡ get (retain_keys whole is_primary) q
  under_all q =
      let n = length parts + 1 in
      let entries = entries_at opening parts in
      same_option (row_under q (joined_before entries n)) (cond (is_primary q) (get whole q) None)
      (λ r e.
      let w = from_before entries q n r e in
      let h = listed_in_whole w.0 (slice_get parts w.0) q r refl w.2 in
      ap (λ b. cond b (get whole q) None) h.0 ∙ h.1)
      (λ e. none_where (is_primary q) (get whole q) (λ p. unlisted_nowhere q p (none_before entries q n e)))
      ∙ sym (get-retain_keys whole is_primary q (alike q))

  -- The lists one after another, sorted, are the list of the whole.
  pub whole_listed : (before after : List (Bor Key × Bor (List Value))) → all_shown before ≡ joined_before (entries_at opening parts) (length parts + 1) → IsPermutation before after → IsSortedByKey key_shown key_cmp after
      → rows_of (all_shown after) ≡ rows_listed whole
  whole_listed before after e p s =
      let all = joined_before (entries_at opening parts) (length parts + 1) in
      let apart : IsDistinct key_test (keys_of all) = before_apart (entries_at opening parts) (length parts + 1) (λ i. each_apart (slice_get parts i)) places_apart in
      let moved : IsPermutation all (all_shown after) = subst (λ l. IsPermutation l (all_shown after)) e (IsPermutation-map deref_pair before after p) in
      ap rows_of (sorted_entries all (all_shown after) (retain_keys whole is_primary) apart moved (keys_sorted after s) under_all) ∙ rows-retained whole
