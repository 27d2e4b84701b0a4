-- Tables once they have changed.
use Rattle.std.proofs.Common.{◌≡◌, ◌<◌, ◌≤◌, ◌+◌, ℕ, zero, suc, Bool, true, false, ◌⊎◌, inl, inr, List, [], ◌∷◌, ◌++◌, length, map, take, drop, set, get_or, Some, None, slice_get, refl, sym, ap, subst, ◌∙◌, arith, unwrap_or}
use Rattle.std.proofs.lemmas.Bool.{cases_lt, cases_eq, cases_Bool}
use Rattle.std.proofs.lemmas.List.{get_or-map, get_or_append_left, get_or_push}
use Rattle.std.proofs.lemmas.Option.{slice_get-get_or, slice_get_within, get_or_from_slice_get}
use Rattle.std.specs.Cmp.{IsEquivalence}
use Rattle.std.specs.List.{AllZip, IsDistinct}
use Rattle.std.specs.Map.{keys_of, values_of, lookup}
use Rattle.std.specs.Option.{option_map_or, option_map}
use Rattle.std.specs.declared.cmp.Ordering.{Ordering}
use Rattle.std_collections.proofs.HashLookup.{IsHashed-push, IsHashed-same_keys, get_value}
use Rattle.std_collections.proofs.Entries.{keys_set_value_at, length-set_value_at}
use Rattle.indexmap.specs.IndexMap.{set_value_at}
use Rattle.indexmap.proofs.MapLemmas.{absent_from_lookup}
use Rattle.key_table.specs.Reached.{AreReached, AreReachedBelow, IsReached, KeepsReached}
use Rattle.key_table.specs.Slots.{is_under}
use Rattle.key_table.specs.Tables.{IsTable, most, room}
use Rattle.key_table.specs.declared.slots.Slot.{Slot}
use Rattle.key_table.specs.declared.strays.Strays.{Strays}
use Rattle.key_table.proofs.TableLemmas.{index_found, value_found}

pub same_some : {X : Type 0} {x y : X} → Some x ≡ Some y → x ≡ y
same_some {X} {x} e = ap (λ r. unwrap_or r x) e

-- What was written to the whole of a list.
pub written : {X : Type 0} (n : ℕ) (xs ys : List X) → length xs ≡ length ys → n ≡ length ys → take n (xs ++ drop (length xs) ys) ≡ xs
written n [] [] e f = ap (λ m. take m []) f
written n [] (y ∷ ys) e f = absurd (omega (e, arith))
written n (x ∷ xs) [] e f = absurd (omega (e, arith))
written n (x ∷ xs) (y ∷ ys) e f = subst (λ m. take m ((x ∷ xs) ++ drop (length (x ∷ xs)) (y ∷ ys)) ≡ x ∷ xs) (sym f) (ap (λ l. x ∷ l) (written (length ys) xs ys (omega (e, arith)) refl))

-- The entry at a place has the key that it had.
same_key : {K V : Type 0} (es : List (K × V)) (i : ℕ) (v : V) (place : ℕ) (entry : K × V) → slice_get (set_value_at es i v) place ≡ Some entry → (old : K × V) × (slice_get es place ≡ Some old) × (old.0 ≡ entry.0)
same_key {K} {V} es i v place entry at =
    let within : place < length es = omega (slice_get_within (set_value_at es i v) place entry at, length-set_value_at es i v, arith) in (
      get_or es place entry,
      slice_get-get_or es place entry within,
      sym (get_or-map (λ (e : K × V). e.0) es place entry entry.0 within)
          ∙ ap (λ ks. get_or ks place entry.0) (sym (keys_set_value_at es i v))
          ∙ get_or-map (λ (e : K × V). e.0) (set_value_at es i v) place entry entry.0 (slice_get_within (set_value_at es i v) place entry at)
          ∙ ap (λ (e : K × V). e.0) (get_or_from_slice_get (set_value_at es i v) place entry entry at),
    )

module _ {K V : Type 0} (eq : K → K → Bool) (laws : IsEquivalence eq) where
  -- The keys of two entries are not equal.
  pub under_own : (es : List (K × V)) (key : K) (i : ℕ) (e : K × V) → slice_get es i ≡ Some e → is_under eq es key i ≡ eq key e.0
  under_own es key i e at = ap (λ o. option_map_or (λ entry. eq key entry.0) o false) at

  pub apart : (es : List (K × V)) (i j : ℕ) (e f : K × V) → IsDistinct eq (keys_of es) → slice_get es i ≡ Some e → slice_get es j ≡ Some f → (i ≡ j → ⊥) → eq e.0 f.0 ≡ false
  apart es i j e f distinct here there other = by (cases_Bool (eq e.0 f.0)) where
    by : (eq e.0 f.0 ≡ true) ⊎ (eq e.0 f.0 ≡ false) → eq e.0 f.0 ≡ false
    by (inl same) = absurd (other (same_some (
        sym (index_found eq laws es e.0 i distinct (under_own es e.0 i e here ∙ laws.refl e.0)) ∙ index_found eq laws es e.0 j distinct (under_own es e.0 j f there ∙ same))))
    by (inr differ) = differ

  -- A key that has no value is equal to no key.
  pub absent_apart : (es : List (K × V)) (key : K) (i : ℕ) (e : K × V) → IsDistinct eq (keys_of es) → lookup (eq key) es ≡ None → slice_get es i ≡ Some e → eq key e.0 ≡ false
  absent_apart es key i e distinct none at = by (cases_Bool (eq key e.0)) where
    by : (eq key e.0 ≡ true) ⊎ (eq key e.0 ≡ false) → eq key e.0 ≡ false
    by (inl same) = none_is_some (sym none ∙ value_found (eq key) es i e (index_found eq laws es key i distinct (under_own es key i e at ∙ same)) at) where
      none_is_some : None ≡ Some e.1 → eq key e.0 ≡ false
      none_is_some bad = cc
    by (inr differ) = differ

  module _ (cmp : K → K → Ordering) (hash : K → ℕ) where
    -- One entry more is reached.
    pub reached_more : (es : List (K × V)) (n : ℕ) (e : K × V) (slots others : List Slot) (strays more : Strays K) → IsDistinct eq (keys_of es) → slice_get es n ≡ Some e → AreReachedBelow cmp hash n es slots strays
        → IsReached cmp others more e.0 (hash e.0) n → KeepsReached cmp eq (λ i. i < n) e.0 slots strays others more → AreReachedBelow cmp hash (n + 1) es others more
    reached_more es n e slots others strays more distinct at below here keeps place entry less there = by (cases_eq place n) where
      by : (place ≡ n) ⊎ (place ≡ n → ⊥) → IsReached cmp others more entry.0 (hash entry.0) place
      by (inl same) =
          let equal : e ≡ entry = same_some (sym at ∙ ap (slice_get es) (sym same) ∙ there) in
          subst (λ i. IsReached cmp others more entry.0 (hash entry.0) i) (sym same) (subst (λ (x : K × V). IsReached cmp others more x.0 (hash x.0) n) equal here)
      by (inr other) = keeps entry.0 (hash entry.0) place (omega (less, other, arith)) (apart es n place e entry distinct at there (λ same. other (sym same))) (below place entry (omega (less, other, arith)) there)

    -- A new entry comes after all others.
    pub pushed : (es : List (K × V)) (hs : List ℕ) (e : K × V) (h : ℕ) (slots others : List Slot) (strays more : Strays K) → IsTable eq cmp hash es hs slots strays → length es < most → lookup (eq e.0) es ≡ None → h ≡ hash e.0
        → IsReached cmp others more e.0 h (length es) → KeepsReached cmp eq (λ i. i < length es) e.0 slots strays others more → IsTable eq cmp hash (es ++ e ∷ []) (hs ++ h ∷ []) others more
    pushed es hs e h slots others strays more t small none hashed here keeps = (
      IsHashed-push eq hash laws hs es h e t.0 hashed (absent_from_lookup (eq e.0) es none),
      subst (λ n. n ≤ most) (sym (length_push es)) (omega (small, arith)),
      reach,
    ) where
      length_push : (xs : List (K × V)) → length (xs ++ e ∷ []) ≡ length xs + 1
      length_push [] = refl
      length_push (x ∷ xs) = omega (length_push xs, arith)

      reach : AreReached cmp hash (es ++ e ∷ []) others more
      reach place entry at = by (cases_lt place (length es)) where
        by : (place < length es) ⊎ (length es ≤ place) → IsReached cmp others more entry.0 (hash entry.0) place
        by (inl within) =
            let there : slice_get es place ≡ Some entry =
            slice_get-get_or es place entry within ∙ ap Some (sym (get_or_append_left es (e ∷ []) entry place within) ∙ get_or_from_slice_get (es ++ e ∷ []) place entry entry at) in
            keeps entry.0 (hash entry.0) place within (absent_apart es e.0 place entry t.0.0 none there) (t.2 place entry there)
        by (inr beyond) =
            let last : place ≡ length es = omega (beyond, slice_get_within (es ++ e ∷ []) place entry at, length_push es, arith) in
            let equal : e ≡ entry = sym (get_or_push es e entry place (sym last)) ∙ get_or_from_slice_get (es ++ e ∷ []) place entry entry at in
            subst (λ (x : K × V). IsReached cmp others more x.0 (hash x.0) place) equal (subst (λ i. IsReached cmp others more e.0 (hash e.0) i) (sym last) (subst (λ k. IsReached cmp others more e.0 k (length es)) hashed here))

    -- A value takes the place of another.
    pub revalued : (es : List (K × V)) (hs : List ℕ) (i : ℕ) (v : V) (slots : List Slot) (strays : Strays K) → IsTable eq cmp hash es hs slots strays → IsTable eq cmp hash (set_value_at es i v) hs slots strays
    revalued es hs i v slots strays t = (
      IsHashed-same_keys eq hash hs es (set_value_at es i v) (keys_set_value_at es i v) t.0,
      subst (λ n. n ≤ most) (sym (length-set_value_at es i v)) t.1,
      λ place entry at. reach place entry (same_key es i v place entry at),
    ) where
      reach : (place : ℕ) (entry : K × V) → (old : K × V) × (slice_get es place ≡ Some old) × (old.0 ≡ entry.0) → IsReached cmp slots strays entry.0 (hash entry.0) place
      reach place entry w = subst (λ k. IsReached cmp slots strays k (hash k) place) w.2 (t.2 place w.0 w.1)

pub set_pair : {K V : Type 0} (es : List (K × V)) (i : ℕ) (e d : K × V) (v : V) → i < length es → e ≡ get_or es i d → set es i (e.0, v) ≡ set_value_at es i v
set_pair [] i e d v within here = absurd (omega (within, arith))
set_pair (x ∷ xs) zero e d v within here = ap (λ (y : _ × _). (y.0, v) ∷ xs) here
set_pair (x ∷ xs) (suc i) e d v within here = ap (λ l. x ∷ l) (set_pair xs i e d v (omega (within, arith)) here)

pub took : {K V : Type 0} (es : List (K × V)) (i : ℕ) (e d : K × V) → i < length es → e ≡ get_or es i d → slice_get (values_of es) i ≡ Some e.1
took es i e d within here = get_value es i ∙ ap (option_map (λ e. e.1)) (slice_get-get_or es i d within ∙ ap Some (sym here))

pub hash_read : {K V : Type 0} (hash : K → ℕ) (es : List (K × V)) (hs : List ℕ) (i u : ℕ) (e d : K × V) → hs ≡ map hash (keys_of es) → i < length es → e ≡ get_or es i d → get_or hs i u ≡ hash e.0
hash_read {K} {V} hash es hs i u e d hashes within here =
    ap (λ l. get_or l i u) hashes ∙ get_or-map hash (keys_of es) i d.0 u (omega (within, length_keys es, arith))
    ∙ ap hash (get_or-map (λ (x : K × V). x.0) es i d d.0 within ∙ ap (λ (x : K × V). x.0) (sym here)) where
      length_keys : (xs : List (K × V)) → length (keys_of xs) ≡ length xs
      length_keys [] = refl
      length_keys (x ∷ xs) = ap suc (length_keys xs)

pub room_left : (a b n : ℕ) → 0 < room a b n → n < most
room_left a b n h = omega (h, arith)

pub carried : {K V : Type 0} (eq : K → K → Bool) (cmp : K → K → Ordering) (hash : K → ℕ) {es fs : List (K × V)} {hs gs : List ℕ} {slots others : List Slot} (strays : Strays K) → es ≡ fs → hs ≡ gs → slots ≡ others → IsTable eq cmp hash fs gs others strays → IsTable eq cmp hash es hs slots strays
carried eq cmp hash {es} {fs} {hs} {gs} {slots} {others} strays e h s t = subst (λ l. IsTable eq cmp hash l hs slots strays) (sym e) (subst (λ l. IsTable eq cmp hash fs l slots strays) (sym h) (subst (λ l. IsTable eq cmp hash fs gs l strays) (sym s) t))

-- Copies of entries have their keys.
pub keys_copied : {K V : Type 0} (R : V → V → Type 0) (es fs : List (K × V)) → AllZip (λ p q. (q.0 ≡ p.0) × R p.1 q.1) es fs → keys_of fs ≡ keys_of es
keys_copied R [] [] h = refl
keys_copied R [] (f ∷ fs) h = absurd h
keys_copied R (e ∷ es) [] h = absurd h
keys_copied R (e ∷ es) (f ∷ fs) h = (λ i. h.0.0 i ∷ keys_copied R es fs h.1 i)
