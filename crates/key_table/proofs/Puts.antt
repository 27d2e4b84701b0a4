-- A key is put into a list of entries.
use Rattle.std.proofs.Common.{IfSome, IfNone, ◌≡◌, ◌<◌, ℕ, Bool, true, false, ◌⊎◌, inl, inr, cond, unwrap_or, is_some, Option, List, [], ◌∷◌, ◌++◌, length, Some, None, slice_get, position, refl, sym, ap, subst, ◌∙◌, arith}
use Rattle.std.proofs.lemmas.Bool.{cases_Bool}
use Rattle.std.specs.Cmp.{IsEquivalence}
use Rattle.std.specs.List.{IsDistinct, position_or_len}
use Rattle.std.specs.Map.{keys_of, values_of, lookup}
use Rattle.std_collections.proofs.Entries.{keys_set_value_at, length-set_value_at}
use Rattle.std_collections.proofs.HashLookup.{Updated, Updated-set, Updated-push, distinct_push, get_value}
use Rattle.std.specs.Option.{option_map}
use Rattle.std.proofs.lemmas.List.{get_or_push, length_push}
use Rattle.std.proofs.lemmas.Option.{slice_get-get_or}
use Rattle.indexmap.proofs.MapLemmas.{some_index, Found, Found-position, Missing, Missing-position, insert_entry-first, insert_entry-absent}
use Rattle.indexmap.specs.IndexMap.{insert_entry, set_value_at}

module _ {K V : Type 0} (eq : K → K → Bool) (laws : IsEquivalence eq) (es fs : List (K × V)) (key : K) (value : V) where
  module _ (i : ℕ) (index : position (eq key) (keys_of es) ≡ Some i) (after : fs ≡ set_value_at es i value) where
    found : Found (eq key) es i
    found = Found-position (eq key) es i index

    pub over_within : i < length fs
    over_within = omega (found.within, ap length after, length-set_value_at es i value, arith)

    pub over_len : length fs ≡ length es
    over_len = ap length after ∙ length-set_value_at es i value

    pub over_old : (old : V) → slice_get (values_of es) i ≡ Some old → Some old ≡ lookup (eq key) es
    over_old old took = sym took ∙ sym found.value

    pub over_index : i ≡ position_or_len (eq key) (keys_of es)
    over_index = sym found.or_len

    pub over_updated : Updated eq laws (eq key) es fs (Some value)
    over_updated = subst (λ l. Updated eq laws (eq key) es l (Some value)) (sym after) (Updated-set eq laws (eq key) (laws.congr key) es i value found.first)

    pub over_entries : fs ≡ insert_entry eq es key value
    over_entries = after ∙ sym (insert_entry-first eq key value es i found.first)

    pub over_unique : IsDistinct eq (keys_of es) → IsDistinct eq (keys_of fs)
    over_unique unique = subst (IsDistinct eq) (sym (ap keys_of after ∙ keys_set_value_at es i value)) unique

  module _ (index : position (eq key) (keys_of es) ≡ None) (after : fs ≡ es ++ (key, value) ∷ []) where
    missing : Missing (eq key) es
    missing = Missing-position (eq key) es index

    pub new_old : None ≡ lookup (eq key) es
    new_old = sym missing.value

    pub new_index : length es ≡ position_or_len (eq key) (keys_of es)
    new_index = sym missing.or_len

    pub new_updated : Updated eq laws (eq key) es fs (Some value)
    new_updated = subst (λ l. Updated eq laws (eq key) es l (Some value)) (sym after) (Updated-push eq laws es key value missing.absent)

    pub new_entries : fs ≡ insert_entry eq es key value
    new_entries = after ∙ sym (insert_entry-absent eq key value es missing.absent)

    pub new_unique : IsDistinct eq (keys_of es) → IsDistinct eq (keys_of fs)
    new_unique unique = subst (λ l. IsDistinct eq (keys_of l)) (sym after) (distinct_push eq laws es (key, value) unique missing.absent)

-- A key that has a value keeps it.
pub kept_open : {K V : Type 0} (eq : K → K → Bool) (laws : IsEquivalence eq) (es : List (K × V)) (key : K) (value : V) → is_some (lookup (eq key) es) ≡ true → (q : K) → lookup (eq q) es ≡ cond (eq key q) (Some (unwrap_or (lookup (eq key) es) value)) (lookup (eq q) es)
kept_open {K} {V} eq laws es key value some q = by (cases_Bool (eq key q)) where
  known : (o : Option V) → is_some o ≡ true → o ≡ Some (unwrap_or o value)
  known None e = cc
  known (Some w) e = refl

  by : (eq key q ≡ true) ⊎ (eq key q ≡ false) → lookup (eq q) es ≡ cond (eq key q) (Some (unwrap_or (lookup (eq key) es) value)) (lookup (eq q) es)
  by (inl same) = sym (λ i. lookup (λ z. laws.congr key q z same i) es) ∙ known (lookup (eq key) es) some ∙ sym (ap (λ b. cond b (Some (unwrap_or (lookup (eq key) es) value)) (lookup (eq q) es)) same)
  by (inr other) = sym (ap (λ b. cond b (Some (unwrap_or (lookup (eq key) es) value)) (lookup (eq q) es)) other)

pub new_open : {K V : Type 0} (eq : K → K → Bool) (es fs : List (K × V)) (key q : K) (value : V) → lookup (eq key) es ≡ None → lookup (eq q) fs ≡ cond (eq key q) (Some value) (lookup (eq q) es) → lookup (eq q) fs ≡ cond (eq key q) (Some (unwrap_or (lookup (eq key) es) value)) (lookup (eq q) es)
new_open eq es fs key q value none h = h ∙ ap (λ o. cond (eq key q) (Some (unwrap_or o value)) (lookup (eq q) es)) (sym none)

-- What holds where an option is known.
pub at_some : {X : Type 0} (o : Option X) (x : X) (P : X → Type 0) → o ≡ Some x → IfSome o P → P x
at_some o x P e h = subst (λ m. IfSome m P) e h

pub at_none : {X : Type 0} (o : Option X) (P : Type 0) → o ≡ None → IfNone o P → P
at_none o P e h = subst (λ m. IfNone m P) e h

-- A key has a place: it had it, or it comes last.
module _ {K V : Type 0} (eq : K → K → Bool) (laws : IsEquivalence eq) (es fs : List (K × V)) (key : K) (value : V) (i : ℕ) where
  abbrev pub Placed : Option V → Type 0
  Placed o =
      IfSome o (λ v. (v ≡ value) × (position (eq key) (keys_of es) ≡ Some i) × (fs ≡ es))
      × IfNone o ((i ≡ length es) × (position (eq key) (keys_of es) ≡ None) × (fs ≡ es ++ (key, value) ∷ []))

  there : (index : position (eq key) (keys_of es) ≡ Some i) → is_some (lookup (eq key) es) ≡ true
  there index = sym (some_index (eq key) es) ∙ ap is_some index

  missed : (index : position (eq key) (keys_of es) ≡ None) → lookup (eq key) es ≡ None
  missed index = (Missing-position (eq key) es index).value

  pub placed_opened : (o : Option V) → Placed o → (q : K) → lookup (eq q) fs ≡ cond (eq key q) (Some (unwrap_or (lookup (eq key) es) value)) (lookup (eq q) es)
  placed_opened (Some v) p q = ap (lookup (eq q)) p.0.2 ∙ kept_open eq laws es key value (there p.0.1) q
  placed_opened None p q = new_open eq es fs key q value (missed p.1.1) ((new_updated eq laws es fs key value p.1.1 p.1.2).0 q)

  pub placed_entries : (o : Option V) → Placed o → fs ≡ cond (is_some (lookup (eq key) es)) es (es ++ (key, value) ∷ [])
  placed_entries (Some v) p = p.0.2 ∙ sym (ap (λ b. cond b es (es ++ (key, value) ∷ [])) (there p.0.1))
  placed_entries None p = p.1.2 ∙ sym (ap (λ b. cond b es (es ++ (key, value) ∷ [])) (ap is_some (missed p.1.1)))

  pub placed_unique : (o : Option V) → Placed o → IsDistinct eq (keys_of es) → IsDistinct eq (keys_of fs)
  placed_unique (Some v) p unique = subst (λ l. IsDistinct eq (keys_of l)) (sym p.0.2) unique
  placed_unique None p unique = new_unique eq laws es fs key value p.1.1 p.1.2 unique

  pub placed_at : (o : Option V) → Placed o → slice_get (values_of fs) i ≡ lookup (eq key) fs
  placed_at (Some v) p = subst (λ l. slice_get (values_of l) i ≡ lookup (eq key) l) (sym p.0.2) (sym (Found-position (eq key) es i p.0.1).value)
  placed_at None p =
      subst (λ l. slice_get (values_of l) i ≡ Some value) (sym p.1.2) (get_value (es ++ (key, value) ∷ []) i ∙ ap (option_map (λ e. e.1)) (last i p.1.0))
      ∙ sym (new_updated eq laws es fs key value p.1.1 p.1.2).1 where
        last : (n : ℕ) → n ≡ length es → slice_get (es ++ (key, value) ∷ []) n ≡ Some (key, value)
        last n e = slice_get-get_or (es ++ (key, value) ∷ []) n (key, value) (omega (e, length_push es, arith)) ∙ ap Some (get_or_push es (key, value) (key, value) n (sym e))
