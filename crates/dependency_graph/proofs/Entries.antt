-- The table of the keys' ends, and the edges, after one change.
use Rattle.std.proofs.Common.{◌≡◌, Bool, true, false, cond, List, [], ◌∷◌, Option, Some, None, is_some, refl, sym, ap, ◌∙◌}
use Rattle.std.specs.Option.{unwrap_or}
use Rattle.std.specs.List.{AllByRecursion, AllPairs, IsDistinct}
use Rattle.std.proofs.lemmas.Map.Keys.{IsDistinct-from_apart, apart_from_distinct}
use Rattle.std.specs.Prelude.{slice_index_or, ◌≢◌}
use Rattle.rows.specs.declared.change.Key.{Key}
use Rattle.rows.specs.Order.{key_eq}
use Rattle.rows.specs.Total.{key_eq_same, key_eq_self}
use Rattle.rows.proofs.Hashed.{same_tests}
use Rattle.dependency_graph.specs.Chains.{Holds, HasEntry, IsOpened, entry_at, same_key}
use Rattle.dependency_graph.specs.declared.chains.Chains.{Chains}
use Rattle.dependency_graph.specs.declared.chains.Ends.{Ends}

flip_at : (a b : Key) (x y : Bool) → key_eq a b ≡ x → key_eq b a ≡ y → x ≡ y
flip_at a b true true p q = refl
flip_at a b false false p q = refl
flip_at a b true false p q = let same : key_eq b a ≡ true = ap (key_eq b) (key_eq_same a b p) ∙ key_eq_self b in cc
flip_at a b false true p q = let same : key_eq a b ≡ true = ap (key_eq a) (key_eq_same b a q) ∙ key_eq_self a in cc

pub flip : (a b : Key) → key_eq a b ≡ key_eq b a
flip a b = flip_at a b (key_eq a b) (key_eq b a) refl refl

turned : (key k : Key) → same_key key k ≡ key_eq k key
turned key k = same_tests key k ∙ flip key k

unwrap_cond : (b : Bool) (w o : Option (Option Ends)) → unwrap_or (cond b w o) None ≡ cond b (unwrap_or w None) (unwrap_or o None)
unwrap_cond true w o = refl
unwrap_cond false w o = refl

module _ (s t : List (Key × Option Ends)) (key : Key) (w : Option (Option Ends)) (h : (q : Key) → entry_at t q ≡ cond (same_key key q) w (entry_at s q)) where
  pub ends_updated : (k : Key) → unwrap_or (entry_at t k) None ≡ cond (key_eq k key) (unwrap_or w None) (unwrap_or (entry_at s k) None)
  ends_updated k =
      ap (λ (o : Option (Option Ends)). unwrap_or o None) (h k)
      ∙ ap (λ b. unwrap_or (cond b w (entry_at s k)) None) (turned key k)
      ∙ unwrap_cond (key_eq k key) w (entry_at s k)

  some_cond : (b : Bool) (o : Option (Option Ends)) → is_some w ≡ true → is_some o ≡ true → is_some (cond b w o) ≡ true
  some_cond true o h g = h
  some_cond false o h g = g

  pub entry_stays : is_some w ≡ true → (k : Key) → is_some (entry_at s k) ≡ true → is_some (entry_at t k) ≡ true
  entry_stays there k had = ap is_some (h k) ∙ some_cond (same_key key k) (entry_at s k) there had

same_cond : (b : Bool) (x y : Option Ends) → (b ≡ true → y ≡ x) → cond b x y ≡ y
same_cond true x y h = sym (h refl)
same_cond false x y h = refl

-- an empty entry is as none
module _ (key : Key) (s t : List (Key × Option Ends)) (h : IsOpened key s t) where
  pub ends_opened : (k : Key) → unwrap_or (entry_at t k) None ≡ unwrap_or (entry_at s k) None
  ends_opened k =
      let here = unwrap_or (entry_at s key) None in
      ends_updated s t key (Some here) h k
      ∙ same_cond (key_eq k key) here (unwrap_or (entry_at s k) None) (λ e. ap (λ q. unwrap_or (entry_at s q) None) (key_eq_same k key e))

  pub entry_opened : is_some (entry_at t key) ≡ true
  entry_opened = ap is_some (h key) ∙ ap (λ b. is_some (cond b (Some (unwrap_or (entry_at s key) None)) (entry_at s key))) (turned key key ∙ key_eq_self key)

pub no_keys : (es : List (Key × Option Ends)) → es ≡ [] → (k : Key) → unwrap_or (entry_at es k) None ≡ None
no_keys es h k = ap (λ rest. unwrap_or (entry_at rest k) None) h

pub some_key : Key
some_key = record { table = []; index = 0; values = [] }

pub new_holds : (c : Chains) → c.table.entries ≡ [] → Holds c (λ k. [])
new_holds c h = record {
  lists = λ k. [];
  owner = λ j. some_key;
  whole = record { ends = no_keys c.table.entries h; linked = λ k. tt; rising = λ k. tt; owned = λ k. tt };
  numbers = λ k. refl;
}

pub all_stay : (c new : Chains) → ((k : Key) → HasEntry c k → HasEntry new k) → (ks : List Key) → AllByRecursion (HasEntry c) ks → AllByRecursion (HasEntry new) ks
all_stay c new h [] g = tt
all_stay c new h (k ∷ ks) g = (h k g.0, all_stay c new h ks g.1)

-- ---- keys named once
by_test : (a b : Key) (t : Bool) → key_eq a b ≡ t → (a ≡ b → ⊥) → key_eq a b ≡ false
by_test a b true e apart = absurd (apart (key_eq_same a b e))
by_test a b false e apart = e

pub distinct_of : (ks : List Key) → AllPairs (λ a b. a ≢ b) ks → IsDistinct key_eq ks
distinct_of ks h = IsDistinct-from_apart key_eq ks (λ i j d lt in_range. let a = slice_index_or ks i d in let b = slice_index_or ks j d in by_test a b (key_eq a b) refl (h i j d lt in_range))

pub pairs_of : (ks : List Key) → IsDistinct key_eq ks → AllPairs (λ a b. a ≢ b) ks
pairs_of ks h = λ i j d lt in_range. λ same.
    let apart : key_eq (slice_index_or ks i d) (slice_index_or ks j d) ≡ false = apart_from_distinct key_eq ks i j d h lt in_range in
    let equal : key_eq (slice_index_or ks i d) (slice_index_or ks j d) ≡ true = ap (key_eq (slice_index_or ks i d)) (sym same) ∙ key_eq_self (slice_index_or ks i d) in
    cc
