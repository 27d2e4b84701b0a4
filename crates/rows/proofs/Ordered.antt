-- Rows under primary keys, sorted, are listed in order.
use Rattle.std.proofs.Common.{◌≡◌, ℕ, ◌+◌, ◌<◌, ◌≤◌, true, false, cond, List, [], ◌∷◌, map, length, get_or, None, IsPermutation, IsSorted, IsSortedByKey, refl, ap, sym, subst, ◌∙◌, arith}
use Rattle.std.specs.Borrow.{Bor}
use Rattle.std.specs.FinMap.{entries, entries_sorted, get, get-entries, from_entries, retain_keys, get-retain_keys}
use Rattle.std.specs.FinMap.Entries.{same_entries}
use Rattle.std.specs.List.{IsDistinct, dedup, dedup_from}
use Rattle.std.specs.List.Sorted.{IsStrictlySortedBy}
use Rattle.std.specs.Map.{lookup, keys_of}
use Rattle.std.specs.Map.Iter.{deref_pair}
use Rattle.std.specs.Ordering.{is_lt}
use Rattle.std.proofs.lemmas.List.{get_or-map, length-map}
use Rattle.std.proofs.lemmas.List.Kept.{IsStrictlySortedBy-dedup}
use Rattle.std.proofs.lemmas.List.Sorted.{IsPermutation-map}
use Rattle.std.proofs.lemmas.Map.Entries.{lookup-filter-keys}
use Rattle.std.proofs.lemmas.Map.Keys.{IsDistinct-IsPermutation}
use Rattle.std.proofs.lemmas.Map.Made.{IsDistinct-keys_filter}
use Rattle.indexmap.proofs.MapLemmas.{lookup_permutation}
use Rattle.row_images.specs.declared.value.Value.{Value}
use Rattle.rows.specs.declared.change.Key.{Key}
use Rattle.rows.specs.Apply.{Rows}
use Rattle.rows.specs.Listing.{is_primary, key_shown, all_shown, entries_listed, primary_entries}
use Rattle.rows.specs.Order.{key_cmp}
use Rattle.rows.specs.Total.{key_total, key_exact}
use Rattle.rows.proofs.Equal.{key_test, keys-Decide}
use Rattle.rows.proofs.Hashed.{same_tests, keys_equiv, hashed_at, get_hashed}
use Rattle.rows.proofs.Primary.{alike}
use Rattle.rows.proofs.Stored.{find_key, is_ordered}

-- ---- keys that differ, in order, rise

none_dropped : (k : Key) (ks : List Key) → IsDistinct key_test (k ∷ ks) → dedup_from key_test k ks ≡ k ∷ ks
unfolding IsDistinct
none_dropped k [] d = refl
none_dropped k (x ∷ ks) d =
    ap (λ b. cond b (dedup_from key_test k ks) (k ∷ dedup_from key_test x ks)) (keys_equiv.symm x k ∙ d.0.0)
    ∙ ap (λ l. k ∷ l) (none_dropped x ks d.1)

all_stay : (ks : List Key) → IsDistinct key_test ks → dedup key_test ks ≡ ks
all_stay [] d = refl
all_stay (k ∷ ks) d = none_dropped k ks d

rising : (ks : List Key) → IsSorted key_cmp ks → IsDistinct key_test ks → IsStrictlySortedBy key_cmp ks
rising ks s d = subst (IsStrictlySortedBy key_cmp) (all_stay ks d) (IsStrictlySortedBy-dedup key_total same_tests ks s)

-- ---- what the references show

abbrev Shown : Type 0
Shown = Bor Key × Bor (List Value)

keys_shown : (refs : List Shown) → map key_shown refs ≡ keys_of (all_shown refs)
keys_shown [] = refl
keys_shown (r ∷ refs) = ap (λ l. key_shown r ∷ l) (keys_shown refs)

falls_not : (refs : List Shown) (k : ℕ) (d : Key) → IsSortedByKey key_shown key_cmp refs → k + 1 < length refs → is_lt (key_cmp (get_or (map key_shown refs) (k + 1) d) (get_or (map key_shown refs) k d)) ≡ false
falls_not [] k d s high = absurd (omega (high, arith))
falls_not (r ∷ refs) k d s high =
    let here : k < length (r ∷ refs) = omega (high, arith) in
    let low : 0 ≤ k = omega arith in
    (λ i. is_lt (key_cmp (get_or-map key_shown (r ∷ refs) (k + 1) r d high i) (get_or-map key_shown (r ∷ refs) k r d here i))) ∙ s k r low high

pub keys_sorted : (refs : List Shown) → IsSortedByKey key_shown key_cmp refs → IsSorted key_cmp (keys_of (all_shown refs))
keys_sorted refs s =
    subst (IsSorted key_cmp) (keys_shown refs) (λ k d low high. falls_not refs k d s (subst (λ n. k + 1 < n) (length-map refs key_shown) high))

-- ---- the list

test_of : (q x y : Key) → key_test q x ≡ true → key_test q y ≡ key_test x y
test_of q x y e = ap (λ k. key_test k y) ((keys-Decide q x).0 e)

-- Entries under different keys, in order, are those of the rows that have the same under each key.
pub sorted_entries : (es fs : List (Key × List Value)) (rows : Rows) → IsDistinct key_test (keys_of es) → IsPermutation es fs → IsSorted key_cmp (keys_of fs) → ((q : Key) → lookup (key_test q) es ≡ get rows q) → fs ≡ entries rows
sorted_entries es fs rows d p s h =
    let apart : IsDistinct key_test (keys_of fs) = IsDistinct-IsPermutation key_test keys_equiv.symm (keys_of es) (keys_of fs) (IsPermutation-map (λ e. e.0) es fs p) d in
    same_entries key_cmp key_total key_exact fs (entries rows) (is_ordered fs (rising (keys_of fs) s apart)) (entries_sorted rows)
    (λ q. find_key fs q ∙ sym (hashed_at fs q) ∙ lookup_permutation keys_equiv es fs p apart (key_test q) (test_of q) ∙ h q ∙ get-entries rows q)

found : (es : List (Key × List Value)) (q : Key) → lookup (key_test q) (primary_entries es) ≡ get (retain_keys (from_entries {R = key_cmp} es) is_primary) q
found es q =
    lookup-filter-keys (key_test q) is_primary (is_primary q) (λ k e. ap is_primary (sym ((keys-Decide q k).0 e))) es
    ∙ ap (λ o. cond (is_primary q) o None) (sym (get_hashed es q))
    ∙ sym (get-retain_keys (from_entries {R = key_cmp} es) is_primary q (alike q))

-- What references show, sorted by keys, is the list of the entries.
pub in_order : (es : List (Key × List Value)) (before after : List Shown) → IsDistinct key_test (keys_of es) → all_shown before ≡ primary_entries es → IsPermutation before after → IsSortedByKey key_shown key_cmp after
    → all_shown after ≡ entries_listed (from_entries {R = key_cmp} es)
in_order es before after d e p s =
    let moved : IsPermutation (primary_entries es) (all_shown after) = subst (λ l. IsPermutation l (all_shown after)) e (IsPermutation-map deref_pair before after p) in
    sorted_entries (primary_entries es) (all_shown after) (retain_keys (from_entries {R = key_cmp} es) is_primary) (IsDistinct-keys_filter key_test (λ e. is_primary e.0) es d) moved (keys_sorted after s) (found es)
