-- The keys of a table as a set.
use Rattle.std.proofs.Common.{◌≡◌, Bool, true, false, ◌||◌, List, [], ◌∷◌, ◌++◌, Some, Option, is_some, cond, refl, ap, if◌then◌else◌, ◌∙◌}
use Rattle.std.specs.List.{list_any}
use Rattle.std.specs.Map.{keys_of, lookup}
use Rattle.indexmap.specs.IndexSet.{insert_key}

some_step : {V : Type 0} (b : Bool) (v : V) (o : Option V) (c : Bool) → is_some o ≡ c → is_some (cond b (Some v) o) ≡ b || c
some_step true v o c h = refl
some_step false v o c h = h

module _ {K V : Type 0} (eq : K → K → Bool) (key : K) where
  pub some_any : (es : List (K × V)) → is_some (lookup (eq key) es) ≡ list_any (eq key) (keys_of es)
  some_any [] = refl
  some_any (e ∷ es) = some_step (eq key e.0) e.1 (lookup (eq key) es) (list_any (eq key) (keys_of es)) (some_any es)

  keys_push : (es : List (K × V)) (value : V) → keys_of (es ++ (key, value) ∷ []) ≡ keys_of es ++ key ∷ []
  keys_push [] value = refl
  keys_push (e ∷ es) value = ap (λ l. e.0 ∷ l) (keys_push es value)

  keys_either : (b : Bool) (es fs : List (K × V)) (ks : List K) → keys_of fs ≡ ks → keys_of (cond b es fs) ≡ (if b then keys_of es else ks)
  keys_either true es fs ks h = refl
  keys_either false es fs ks h = h

  pub keys_opened : (es : List (K × V)) (value : V) → keys_of (cond (is_some (lookup (eq key) es)) es (es ++ (key, value) ∷ [])) ≡ insert_key eq (keys_of es) key
  keys_opened es value =
      keys_either (is_some (lookup (eq key) es)) es (es ++ (key, value) ∷ []) (keys_of es ++ key ∷ []) (keys_push es value)
      ∙ ap (λ b. if b then keys_of es else keys_of es ++ key ∷ []) (some_any es)
