-- One more turn of the loops.
use Rattle.std.proofs.Common.{◌≡◌, ℕ, zero, suc, ◌+◌, ◌<◌, ◌≤◌, inl, inr, map, Some, Bool, true, false, cond, List, [], ◌∷◌, ◌++◌, length, get_or, drop, Result, Ok, refl, ap, sym, ◌∙◌, subst, append_assoc, arith}
use Rattle.std.specs.Prelude.{IfOk, slice_get}
use Rattle.std.specs.Option.{option_map}
use Rattle.std.specs.Borrow.{Bor}
use Rattle.std.specs.List.{filter}
use Rattle.std.specs.Map.Iter.{deref_pair}
use Rattle.std.specs.declared.alloc.AllocError.{AllocError}
use Rattle.std.proofs.lemmas.List.{drop_more, map-append}
use Rattle.std.proofs.lemmas.Option.{slice_get-map, slice_get_cases, slice_get_within, get_or_from_slice_get}
use Rattle.row_images.specs.declared.value.Value.{Value}
use Rattle.rows.specs.declared.change.Key.{Key}
use Rattle.rows.specs.Listing.{all_shown}
use Rattle.row_parts.specs.Listing.{joined_before}
use Rattle.row_parts.specs.Ranges.{AreListedAt, shown_at, shown_in}
use Rattle.row_parts.specs.declared.listing.Listed.{Listed}

abbrev Shown : Type 0
Shown = Bor Key × Bor (List Value)

-- ---- a list of what passes a test

rest_of : (t : Key × List Value → Bool) (items : List Shown) (i : ℕ) (x : Shown) → i < length items → x ≡ get_or items i x
    → filter t (all_shown (drop i items)) ≡ cond (t (deref_pair x)) (deref_pair x ∷ filter t (all_shown (drop (i + 1) items))) (filter t (all_shown (drop (i + 1) items)))
rest_of t items i x l at = ap (λ r. filter t (all_shown r)) (drop_more items i x l ∙ ap (λ y. y ∷ drop (i + 1) items) (sym at))

-- the entry at a place passes
pub one_in : (t : Key × List Value → Bool) (old new items : List Shown) (i : ℕ) (x : Shown) (all : List (Key × List Value)) → i < length items → x ≡ get_or items i x → t (deref_pair x) ≡ true → new ≡ old ++ x ∷ []
    → all_shown old ++ filter t (all_shown (drop i items)) ≡ all → all_shown new ++ filter t (all_shown (drop (i + 1) items)) ≡ all
one_in t old new items i x all l at passes pushed so_far =
    let rest = filter t (all_shown (drop (i + 1) items)) in
    ap (λ n. n ++ rest) (ap all_shown pushed ∙ map-append deref_pair old (x ∷ []))
    ∙ append_assoc (all_shown old) (deref_pair x ∷ []) rest
    ∙ ap (λ r. all_shown old ++ r) (sym (rest_of t items i x l at ∙ ap (λ b. cond b (deref_pair x ∷ rest) rest) passes))
    ∙ so_far

-- it doesn't
pub one_out : (t : Key × List Value → Bool) (old new items : List Shown) (i : ℕ) (x : Shown) (all : List (Key × List Value)) → i < length items → x ≡ get_or items i x → t (deref_pair x) ≡ false → new ≡ old
    → all_shown old ++ filter t (all_shown (drop i items)) ≡ all → all_shown new ++ filter t (all_shown (drop (i + 1) items)) ≡ all
one_out t old new items i x all l at fails same so_far =
    let rest = filter t (all_shown (drop (i + 1) items)) in
    ap (λ n. all_shown n ++ rest) same
    ∙ ap (λ r. all_shown old ++ r) (sym (rest_of t items i x l at ∙ ap (λ b. cond b (deref_pair x ∷ rest) rest) fails))
    ∙ so_far

-- ---- lists one after another

abbrev pub made : Listed → Result Listed AllocError
made = Ok

-- each list is that of its place, where each call gave it so
pub each_at : (entries : ℕ → List (Key × List Value)) (lists : List Listed) (found : List (Result Listed AllocError)) → map made lists ≡ found → ((i : ℕ) (d : Result Listed AllocError) → i < length found → IfOk (get_or found i d) (λ f. all_shown f.entries.items ≡ entries i))
    → AreListedAt entries lists
each_at entries lists found is h i list at =
    let here : slice_get found i ≡ Some (made list) = ap (λ fs. slice_get fs i) (sym is) ∙ slice_get-map made lists i ∙ ap (option_map made) at in
    subst (λ r. IfOk r (λ f. all_shown f.entries.items ≡ entries i)) (get_or_from_slice_get found i (made list) (made list) here) (h i (made list) (slice_get_within found i (made list) here))

-- all of them, one after another
pub all_at : (entries : ℕ → List (Key × List Value)) (lists : List Listed) (n : ℕ) → AreListedAt entries lists → n ≤ length lists → all_shown (joined_before (shown_at lists) n) ≡ joined_before entries n
all_at entries lists zero are fits = refl
all_at entries lists (suc n) are fits =
    let w = elim (slice_get_cases lists n).1 as (λ _. (l : Listed) × (slice_get lists n ≡ Some l)) [
      | inl w ↦ (w.0, w.2)
      | inr past ↦ let high = past.0 in absurd (omega (high, fits, arith))
    ] in
    map-append deref_pair (joined_before (shown_at lists) n) (shown_at lists n)
    ∙ (λ i. all_at entries lists n are (omega (arith, fits)) i ++ (ap (λ o. all_shown (shown_in o)) w.1 ∙ are n w.0 w.1) i)
