-- The entries of a hashed table as a finite map, and its keys as a finite set.
use Rattle.std.proofs.Common.{◌≡◌, Bool, true, cond, ◌||◌, List, [], ◌∷◌, Some, refl, sym, ◌∙◌}
use Rattle.std.specs.declared.cmp.Ordering.{Ordering}
use Rattle.std.specs.Cmp.{IsTotalOrder}
use Rattle.std.specs.List.{list_any}
use Rattle.std.specs.Map.{lookup}
use Rattle.std.specs.BTreeMap.{is_at}
use Rattle.std.specs.FinMap.{IsAntisymmetric, from_entries, insert}
use Rattle.std.specs.FinSet.{from_list, insert as add}
use Rattle.audit.proofs.Stored.{at, one_put, one_key}

module _ {K X : Type 0} (R : K → K → Ordering) (test : K → K → Bool) (same : (a b : K) → test a b ≡ is_at (R a) b) where
  pub hashed_at : (es : List (K × X)) (q : K) → lookup (test q) es ≡ at R es q
  hashed_at [] q = refl
  hashed_at (e ∷ es) q = λ i. cond (same q e.0 i) (Some e.1) (hashed_at es q i)

  pub hashed_put : IsTotalOrder R → IsAntisymmetric R → (es fs : List (K × X)) (k : K) (x : X) → ((q : K) → lookup (test q) fs ≡ cond (test k q) (Some x) (lookup (test q) es))
      → from_entries {R = R} fs ≡ insert (from_entries es) k x
  hashed_put total exact es fs k x h =
      one_put R total exact es fs k x (λ q. sym (hashed_at fs q) ∙ h q ∙ (λ i. cond (same k q i) (Some x) (hashed_at es q i)))

module _ {K : Type 0} (R : K → K → Ordering) (test : K → K → Bool) (same : (a b : K) → test a b ≡ is_at (R a) b) where
  pub hashed_in : (ks : List K) (q : K) → list_any (test q) ks ≡ list_any (is_at (R q)) ks
  hashed_in [] q = refl
  hashed_in (k ∷ ks) q = λ i. same q k i || hashed_in ks q i

  pub hashed_key : IsTotalOrder R → IsAntisymmetric R → (ks js : List K) (k : K) → ((q : K) → list_any (test q) js ≡ cond (test k q) true (list_any (test q) ks))
      → from_list {R = R} js ≡ add (from_list ks) k
  hashed_key total exact ks js k h =
      one_key R total exact ks js k (λ q. sym (hashed_in js q) ∙ h q ∙ (λ i. cond (same k q i) true (hashed_in ks q i)))
