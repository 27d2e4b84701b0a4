-- What hidden values tell.
use Rattle.std.proofs.Common.{inl, inr, ◌≡◌, ◌⊎◌, ℕ, Bool, true, false, List, length, Option, Some, None, option_map, refl, sym, ap, ◌∙◌, arith}
use Rattle.std.specs.Prelude.{◌==◌, ◌||◌, ◌↔◌, if◌then◌else◌}
use Rattle.std.specs.Str.{bytes_eq}
use Rattle.std.proofs.lemmas.Slice.Eq.{bytes_eq-Decides}
use Rattle.std.proofs.lemmas.Option.{none-some, same_Some}
use Rattle.row_images.specs.Order.{bytes}
use Rattle.row_images.specs.declared.value.Value.TheVariants.{Bytes}
use Rattle.derived_columns.specs.declared.column.KeyComparison.{KeyComparison}
use Rattle.derived_columns.specs.declared.column.KeyComparison.TheVariants.{Text, FirstCharacters, FirstBytes, FixedCharacters, FixedBytes, Float}
use Rattle.derived_columns.specs.Compared.{compared_bytes, float_bytes, zero_float, negative_zero_float, zero_double, negative_zero_double}
use Rattle.derived_columns.specs.Images.{row_value}
use Rattle.derived_columns.proofs.Joined.{text_tells}
use Rattle.derived_columns.specs.Laws.{AreBoth, IsOneKey, HiddenValuesTellKeys, HiddenValuesTellRows}

-- ---- numbers

-- what the bytes of a number are
abbrev IsFloatBy : List ℕ → Type 0
IsFloatBy a =
    ((a ≡ negative_zero_float) × (float_bytes a ≡ Some zero_float))
    ⊎ (((a ≡ negative_zero_double) × (float_bytes a ≡ Some zero_double)) ⊎ ((float_bytes a ≡ Some a) ⊎ (float_bytes a ≡ None)))

float_by : (a : List ℕ) → IsFloatBy a
float_by a = known (bytes_eq a negative_zero_float) (bytes_eq a negative_zero_double) ((length a == 4) || (length a == 8)) refl refl refl
  where
    value : Bool → Bool → Bool → Option (List ℕ)
    value p q r = if p then Some zero_float else if q then Some zero_double else if r then Some a else None

    known : (p q r : Bool) → bytes_eq a negative_zero_float ≡ p → bytes_eq a negative_zero_double ≡ q → ((length a == 4) || (length a == 8)) ≡ r → IsFloatBy a
    known true q r e f g = inl ((bytes_eq-Decides a negative_zero_float).0 e, λ i. value (e i) (f i) (g i))
    known false true r e f g = inr (inl ((bytes_eq-Decides a negative_zero_double).0 f, λ i. value (e i) (f i) (g i)))
    known false false true e f g = inr (inr (inl (λ i. value (e i) (f i) (g i))))
    known false false false e f g = inr (inr (inr (λ i. value (e i) (f i) (g i))))

two_lengths : (a b : List ℕ) → a ≡ b → length a ≡ 4 → length b ≡ 8 → ⊥
two_lengths a b e f g = omega (arith, ap length e)

float_keys : (a b : List ℕ) → IsFloatBy a → IsFloatBy b → float_bytes a ≡ float_bytes b → IsOneKey Float a b
float_keys a b (inl m) (inl n) h = inl (inl (m.0 ∙ sym n.0))
float_keys a b (inl m) (inr (inl n)) h = absurd (two_lengths zero_float zero_double (same_Some _ _ (sym m.1 ∙ h ∙ n.1)) refl refl)
float_keys a b (inl m) (inr (inr (inl n))) h = inl (inr (inl (inr (m.0, same_Some _ _ (sym n ∙ sym h ∙ m.1)))))
float_keys a b (inl m) (inr (inr (inr n))) h = absurd (none-some _ (sym n ∙ sym h ∙ m.1))
float_keys a b (inr (inl m)) (inl n) h = absurd (two_lengths zero_float zero_double (same_Some _ _ (sym n.1 ∙ sym h ∙ m.1)) refl refl)
float_keys a b (inr (inl m)) (inr (inl n)) h = inl (inl (m.0 ∙ sym n.0))
float_keys a b (inr (inl m)) (inr (inr (inl n))) h = inl (inr (inr (inr (m.0, same_Some _ _ (sym n ∙ sym h ∙ m.1)))))
float_keys a b (inr (inl m)) (inr (inr (inr n))) h = absurd (none-some _ (sym n ∙ sym h ∙ m.1))
float_keys a b (inr (inr (inl m))) (inl n) h = inl (inr (inl (inl (same_Some _ _ (sym m ∙ h ∙ n.1), n.0))))
float_keys a b (inr (inr (inl m))) (inr (inl n)) h = inl (inr (inr (inl (same_Some _ _ (sym m ∙ h ∙ n.1), n.0))))
float_keys a b (inr (inr (inl m))) (inr (inr (inl n))) h = inl (inl (same_Some _ _ (sym m ∙ h ∙ n)))
float_keys a b (inr (inr (inl m))) (inr (inr (inr n))) h = absurd (none-some _ (sym n ∙ sym h ∙ m))
float_keys a b (inr (inr (inr m))) (inl n) h = absurd (none-some _ (sym m ∙ h ∙ n.1))
float_keys a b (inr (inr (inr m))) (inr (inl n)) h = absurd (none-some _ (sym m ∙ h ∙ n.1))
float_keys a b (inr (inr (inr m))) (inr (inr (inl n))) h = absurd (none-some _ (sym m ∙ h ∙ n))
float_keys a b (inr (inr (inr m))) (inr (inr (inr n))) h = inr (m, n)

both_same : (this that a b : List ℕ) → float_bytes this ≡ float_bytes that → AreBoth this that a b → float_bytes a ≡ float_bytes b
both_same this that a b e (inl p) = ap float_bytes p.0 ∙ e ∙ sym (ap float_bytes p.1)
both_same this that a b e (inr p) = ap float_bytes p.0 ∙ sym e ∙ sym (ap float_bytes p.1)

keys_of_floats : (a b : List ℕ) → IsOneKey Float a b → float_bytes a ≡ float_bytes b
keys_of_floats a b (inl (inl e)) = ap float_bytes e
keys_of_floats a b (inl (inr (inl p))) = both_same zero_float negative_zero_float a b refl p
keys_of_floats a b (inl (inr (inr p))) = both_same zero_double negative_zero_double a b refl p
keys_of_floats a b (inr p) = p.0 ∙ sym p.1

-- ---- values

bytes_back : (o : Option (List ℕ)) → option_map bytes (option_map Bytes o) ≡ o
bytes_back None = refl
bytes_back (Some b) = refl

same_compared : (o p : Option (List ℕ)) → option_map Bytes o ≡ option_map Bytes p → o ≡ p
same_compared o p e = sym (bytes_back o) ∙ ap (option_map bytes) e ∙ bytes_back p

tells : (comparison : KeyComparison) (a b : List ℕ) → (compared_bytes comparison a ≡ compared_bytes comparison b) ↔ IsOneKey comparison a b
unfolding compared_bytes
tells (Text collation) a b = (λ e. e, λ e. e)
tells (FirstCharacters collation count) a b = (λ e. e, λ e. e)
tells (FirstBytes count) a b = (λ e. same_Some _ _ e, λ e. ap Some e)
tells (FixedCharacters collation count) a b = (λ e. e, λ e. e)
tells (FixedBytes count) a b = (λ e. same_Some _ _ e, λ e. ap Some e)
tells Float a b = (λ e. float_keys a b (float_by a) (float_by b) e, λ one. keys_of_floats a b one)

pub hidden_values_tell_keys : HiddenValuesTellKeys
hidden_values_tell_keys comparison a b = (
  λ e. (tells comparison a b).0 (same_compared (compared_bytes comparison a) (compared_bytes comparison b) e),
  λ one. ap (option_map Bytes) ((tells comparison a b).1 one),
)

-- ---- rows

pub hidden_values_tell_rows : HiddenValuesTellRows
hidden_values_tell_rows a b fits fits_too = (
  λ e. text_tells a b fits fits_too (ap bytes e),
  λ e. ap row_value e,
)
