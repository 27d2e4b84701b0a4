-- The entries of a hashed table as a finite map from keys to places.
use Rattle.std.proofs.Common.{◌≡◌, ℕ, cond, List, [], ◌∷◌, Some, refl, sym, ◌∙◌}
use Rattle.std.specs.FinMap.{same_map, find, get, insert, from_entries, get-from_entries, get-insert}
use Rattle.std.specs.Map.{lookup}
use Rattle.std.proofs.lemmas.Cmp.{eq_by_cmp_equiv}
use Rattle.rows.specs.declared.change.Key.{Key}
use Rattle.rows.specs.Order.{key_cmp}
use Rattle.rows.specs.Total.{key_total, key_exact}
use Rattle.rows.proofs.Equal.{key_test}
use Rattle.rows.proofs.Hashed.{same_tests}

found_at : (es : List (Key × ℕ)) (q : Key) → find key_cmp q es ≡ lookup (key_test q) es
found_at [] q = refl
found_at (e ∷ es) q = λ i. cond (sym (same_tests q e.0) i) (Some e.1) (found_at es q i)

-- the place of a key
pub get_hashed : (es : List (Key × ℕ)) (q : Key) → get (from_entries {R = key_cmp} es) q ≡ lookup (key_test q) es
get_hashed es q = get-from_entries key_total es q ∙ found_at es q

-- a place that is put in
pub hashed_put : (es fs : List (Key × ℕ)) (k : Key) (place : ℕ) → ((q : Key) → lookup (key_test q) fs ≡ cond (key_test k q) (Some place) (lookup (key_test q) es))
    → from_entries {R = key_cmp} fs ≡ insert (from_entries es) k place
hashed_put es fs k place h = same_map key_total key_exact _ _ (λ q.
    get_hashed fs q ∙ h q
    ∙ (λ i. cond ((same_tests k q ∙ (eq_by_cmp_equiv key_total).symm k q) i) (Some place) (sym (get_hashed es q) i))
    ∙ sym (get-insert key_total (from_entries es) k place q))
