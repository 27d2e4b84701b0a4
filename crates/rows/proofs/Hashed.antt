-- The entries of a hashed table as a finite map.
use Rattle.std.proofs.Common.{◌≡◌, Bool, true, false, is_some, cond, List, [], ◌∷◌, Some, None, refl, ap, sym, ◌∙◌}
use Rattle.std.specs.Bool.{one_answer}
use Rattle.std.specs.Cmp.{IsEquivalence}
use Rattle.std.specs.FinMap.{from_entries, get, insert, remove}
use Rattle.std.specs.Map.{lookup}
use Rattle.std.proofs.lemmas.Cmp.{eq_by_cmp_equiv}
use Rattle.row_images.specs.declared.value.Value.{Value}
use Rattle.rows.specs.declared.change.Key.{Key}
use Rattle.rows.specs.Order.{key_cmp, key_eq}
use Rattle.rows.specs.Apply.{Rows}
use Rattle.rows.specs.Patch.{put_over}
use Rattle.rows.specs.Total.{key_total, key_eq_same, key_eq_self}
use Rattle.rows.proofs.Equal.{key_test, keys-Decide}
use Rattle.rows.proofs.Local.{same_rows}
use Rattle.rows.proofs.Stored.{row_at, get_key, one_put, one_taken}

-- the two tests of keys agree
pub same_tests : (a b : Key) → key_test a b ≡ key_eq a b
same_tests a b = one_answer (key_test a b) (key_eq a b) (keys-Decide a b) (key_eq_same a b, λ e. ap (key_eq a) (sym e) ∙ key_eq_self a)

pub keys_equiv : IsEquivalence key_test
keys_equiv = record {
  refl = λ x. (keys-Decide x x).1 refl;
  symm = λ x y. same_tests x y ∙ (eq_by_cmp_equiv key_total).symm x y ∙ sym (same_tests y x);
  congr = λ x y z e. ap (λ k. key_test k z) ((keys-Decide x y).0 e);
}

pub hashed_at : (es : List (Key × List Value)) (q : Key) → lookup (key_test q) es ≡ row_at es q
hashed_at [] q = refl
hashed_at (e ∷ es) q = λ i. cond (same_tests q e.0 i) (Some e.1) (hashed_at es q i)

pub get_hashed : (es : List (Key × List Value)) (q : Key) → get (from_entries {R = key_cmp} es) q ≡ lookup (key_test q) es
get_hashed es q = get_key es q ∙ sym (hashed_at es q)

pub hashed_put : (es fs : List (Key × List Value)) (k : Key) (row : List Value) → ((q : Key) → lookup (key_test q) fs ≡ cond (key_test k q) (Some row) (lookup (key_test q) es))
    → from_entries {R = key_cmp} fs ≡ insert (from_entries es) k row
hashed_put es fs k row h =
    one_put es fs k row (λ q. sym (hashed_at fs q) ∙ h q ∙ (λ i. cond (same_tests k q i) (Some row) (hashed_at es q i)))

pub hashed_taken : (es fs : List (Key × List Value)) (k : Key) → ((q : Key) → lookup (key_test q) fs ≡ cond (key_test k q) None (lookup (key_test q) es))
    → from_entries {R = key_cmp} fs ≡ remove (from_entries es) k
hashed_taken es fs k h =
    one_taken es fs k (λ q. sym (hashed_at fs q) ∙ h q ∙ (λ i. cond (same_tests k q i) None (hashed_at es q i)))

pub hashed_same : (es fs : List (Key × List Value)) → ((q : Key) → lookup (key_test q) es ≡ lookup (key_test q) fs) → from_entries {R = key_cmp} es ≡ from_entries fs
hashed_same es fs h = same_rows _ _ (λ q. get_hashed es q ∙ h q ∙ sym (get_hashed fs q))

pub hashed_told : (es fs : List (Key × List Value)) → from_entries {R = key_cmp} es ≡ from_entries fs → (q : Key) → lookup (key_test q) es ≡ lookup (key_test q) fs
hashed_told es fs e q = sym (get_hashed es q) ∙ ap (λ m. get m q) e ∙ get_hashed fs q

-- a row takes the place of one that is there
over_one : (b : Bool) (x y : Rows) → b ≡ true → x ≡ cond b x y
over_one true x y e = refl
over_one false x y e = cc

over_none : (b : Bool) (x y : Rows) → b ≡ false → y ≡ cond b x y
over_none true x y e = cc
over_none false x y e = refl

pub hashed_over : (es fs : List (Key × List Value)) (k : Key) (row : List Value) → is_some (lookup (key_test k) es) ≡ true → ((q : Key) → lookup (key_test q) fs ≡ cond (key_test k q) (Some row) (lookup (key_test q) es))
    → from_entries {R = key_cmp} fs ≡ put_over k row (from_entries es)
hashed_over es fs k row stands h =
    hashed_put es fs k row h ∙ over_one (is_some (get (from_entries {R = key_cmp} es) k)) _ _ (ap is_some (get_hashed es k) ∙ stands)

pub hashed_not_over : (es : List (Key × List Value)) (k : Key) (row : List Value) → is_some (lookup (key_test k) es) ≡ false → from_entries {R = key_cmp} es ≡ put_over k row (from_entries es)
hashed_not_over es k row free = over_none (is_some (get (from_entries {R = key_cmp} es) k)) _ _ (ap is_some (get_hashed es k) ∙ free)
