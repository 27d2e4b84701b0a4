-- Places of keys.
use Rattle.std.proofs.Common.{rules, Result, Ok, Err, OnErr, ◌≡◌, ◌<◌, ◌≤◌, ℕ, Bool, true, false, ◌⊎◌, inl, inr, List, [], length, get_or, Some, None, Option, slice_get, position, refl, sym, ap, subst, ◌∙◌, arith, ltb}
use Rattle.std.proofs.lemmas.Bool.{ltb-true}
use Rattle.std.proofs.lemmas.List.{get_or-map}
use Rattle.std.proofs.lemmas.Option.{slice_get_cases, slice_get-get_or, slice_get_within}
use Rattle.std.specs.Cmp.{IsEquivalence}
use Rattle.std.specs.List.{IsDistinct}
use Rattle.std.specs.Map.{keys_of, lookup, values_of}
use Rattle.std.specs.Option.{IfSome, option_map_or, option_map}
use Rattle.std_collections.proofs.HashLookup.{IsAbsent-from_indices, IsFirst-from_index, IsHashed-nil, get_value}
use Rattle.indexmap.proofs.MapLemmas.{Found-position, Missing-position, index-absent, index-first}
use Rattle.std.specs.declared.cmp.Ordering.{Ordering}
use Rattle.key_table.specs.Slots.{is_under}
use Rattle.key_table.specs.Tables.{IsTable, most}
use Rattle.key_table.specs.declared.slots.Slot.{Slot}
use Rattle.key_table.specs.declared.strays.Strays.{Strays}
use Rattle.key_table.proofs.SlotLemmas.{under_within}

module _ {K V : Type 0} (eq : K → K → Bool) (laws : IsEquivalence eq) where
  under_is : (es : List (K × V)) (key : K) (i : ℕ) (d : K) → i < length es → is_under eq es key i ≡ eq key (get_or (keys_of es) i d)
  under_is es key i d within = by (slice_get_cases es i).1 where
    by : ((x : K × V) × (i < length es) × (slice_get es i ≡ Some x) × (get_or es i x ≡ x)) ⊎ ((length es ≤ i) × (slice_get es i ≡ None)) → is_under eq es key i ≡ eq key (get_or (keys_of es) i d)
    by (inl w) = ap (λ o. option_map_or (λ entry. eq key entry.0) o false) w.2 ∙ ap (eq key) (sym (get_or-map (λ (e : K × V). e.0) es i w.0 d within ∙ ap (λ (e : K × V). e.0) w.3))
    by (inr w) = absurd (omega (w.0, within, arith))

  pub index_found : (es : List (K × V)) (key : K) (i : ℕ) → IsDistinct eq (keys_of es) → is_under eq es key i ≡ true → position (eq key) (keys_of es) ≡ Some i
  index_found es key i distinct under =
      let within = under_within eq es key i under in
      index-first (eq key) es i (IsFirst-from_index eq laws (eq key) (laws.congr key) es i key distinct within (sym (under_is es key i key within) ∙ under))

  pub index_missing : (es : List (K × V)) (key : K) → ((i : ℕ) → is_under eq es key i ≡ false) → position (eq key) (keys_of es) ≡ None
  index_missing es key none = index-absent (eq key) es (IsAbsent-from_indices (eq key) es (λ i d within. sym (under_is es key i d within) ∙ none i))

-- What is at the place of a key.
pub value_found : {K V : Type 0} (test : K → Bool) (es : List (K × V)) (i : ℕ) (e : K × V) → position test (keys_of es) ≡ Some i → slice_get es i ≡ Some e → lookup test es ≡ Some e.1
value_found test es i e index at = (Found-position test es i index).value ∙ get_value es i ∙ ap (option_map (λ e. e.1)) at

pub value_missing : {K V : Type 0} (test : K → Bool) (es : List (K × V)) → position test (keys_of es) ≡ None → lookup test es ≡ None
value_missing test es index = (Missing-position test es index).value

-- What a search answers.
pub index_is : {K V : Type 0} (eq : K → K → Bool) (laws : IsEquivalence eq) (es xs : List (K × V)) (key : K) (r : Option ℕ) → xs ≡ es → IsDistinct eq (keys_of es) → IfSome r (λ i. is_under eq xs key i ≡ true) → (r ≡ None → (i : ℕ) → is_under eq xs key i ≡ false) → r ≡ position (eq key) (keys_of es)
index_is eq laws es xs key None same distinct at absent = sym (index_missing eq laws es key (λ i. sym (ap (λ l. is_under eq l key i) same) ∙ absent refl i))
index_is eq laws es xs key (Some i) same distinct at absent = sym (index_found eq laws es key i distinct (sym (ap (λ l. is_under eq l key i) same) ∙ at))

pub get_is : {X : Type 0} (xs : List X) (i : ℕ) (e d : X) → true ≡ ltb i (length xs) → e ≡ get_or xs i d → slice_get xs i ≡ Some e
get_is xs i e d within here = slice_get-get_or xs i d (ltb-true _ _ (sym within)) ∙ ap Some (sym here)

-- A table of no entries.
no_entry : {X Y : Type 0} (xs : List X) (i : ℕ) (x : X) → xs ≡ [] → slice_get xs i ≡ Some x → Y
no_entry xs i x none at = absurd (omega (slice_get_within xs i x at, ap length none, arith))

pub empty_table : {K V : Type 0} (eq : K → K → Bool) (cmp : K → K → Ordering) (hash : K → ℕ) (es : List (K × V)) (hs : List ℕ) (slots : List Slot) (strays : Strays K) → es ≡ [] → hs ≡ [] → IsTable eq cmp hash es hs slots strays
empty_table eq cmp hash es hs slots strays e h = (IsHashed-nil eq hash hs es h e, subst (λ (l : List _). length l ≤ most) (sym e) (omega arith), λ place entry at. no_entry es place entry e at)

pub empty_unique : {K V : Type 0} (eq : K → K → Bool) (es : List (K × V)) → es ≡ [] → IsDistinct eq (keys_of es)
empty_unique eq es e = (IsHashed-nil eq (λ _. 0) [] es refl e).0

pub value_at : {K V : Type 0} (test : K → Bool) (es xs : List (K × V)) (i : ℕ) (e d : K × V) → xs ≡ es → position test (keys_of es) ≡ Some i → true ≡ ltb i (length xs) → e ≡ get_or xs i d → Some e.1 ≡ lookup test es
value_at test es xs i e d same index within here = sym (value_found test es i e index (subst (λ l. slice_get l i ≡ Some e) same (get_is xs i e d within here)))

-- A key that no entry has has no value, and one that an entry has has one.
pub none_lookup : {K V : Type 0} (eq : K → K → Bool) (laws : IsEquivalence eq) (es xs : List (K × V)) (key : K) → xs ≡ es → ((i : ℕ) → is_under eq xs key i ≡ false) → position (eq key) (keys_of es) ≡ None
none_lookup eq laws es xs key same none = index_missing eq laws es key (λ i. sym (ap (λ l. is_under eq l key i) same) ∙ none i)

pub some_place : {K V : Type 0} (eq : K → K → Bool) (laws : IsEquivalence eq) (es xs : List (K × V)) (key : K) (i : ℕ) → xs ≡ es → IsDistinct eq (keys_of es) → is_under eq xs key i ≡ true → position (eq key) (keys_of es) ≡ Some i
some_place eq laws es xs key i same distinct under = index_found eq laws es key i distinct (sym (ap (λ l. is_under eq l key i) same) ∙ under)

pub value_of_place : {K V : Type 0} (test : K → Bool) (es : List (K × V)) (r : Option ℕ) → r ≡ position test (keys_of es) → IfSome r (λ place. slice_get (values_of es) place ≡ lookup test es)
value_of_place test es None index = search rules
value_of_place test es (Some i) index = sym (Found-position test es i (sym index)).value

-- A fact where a result is an error.
pub on_err : {T E : Type 0} (r : Result T E) (P : Type 0) → P → OnErr r P
on_err (Ok x) P p = search rules
on_err (Err x) P p = p
