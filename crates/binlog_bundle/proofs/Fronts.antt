-- What stands before and behind the first of a byte.
use Rattle.std.proofs.Common.{◌≡◌, ℕ, zero, suc, ◌+◌, ◌<◌, Bool, true, false, List, [], ◌∷◌, length, take, drop, Some, None, refl, ap, ◌∙◌, arith}
use Rattle.std.specs.Prelude.{◌==◌, slice_index, if◌then◌else◌}
use Rattle.binlog_bundle.specs.Comparisons.{front_of, behind_of}

not_true : (b : Bool) → (b ≡ true → ⊥) → b ≡ false
not_true true denied = absurd (denied refl)
not_true false denied = refl

pub nowhere : (byte : ℕ) (text : List ℕ) → ((k : ℕ) → k < length text → (slice_index text k == byte) ≡ true → ⊥) → (front_of byte text ≡ text) × (behind_of byte text ≡ None)
nowhere byte [] denied = (refl, refl)
nowhere byte (b ∷ bs) denied =
    let here : (b == byte) ≡ false = not_true (b == byte) (λ e. denied 0 (omega arith) e) in
    let rest = nowhere byte bs (λ k lt e. denied (suc k) (omega (arith, lt)) e) in
    (λ i. if here i then [] else b ∷ rest.0 i, λ i. if here i then Some bs else rest.1 i)

pub at_first : (byte : ℕ) (text : List ℕ) (n : ℕ) → n < length text → ((k : ℕ) → k < n → (slice_index text k == byte) ≡ true → ⊥) → (slice_index text n == byte) ≡ true
    → (front_of byte text ≡ take n text) × (behind_of byte text ≡ Some (drop (n + 1) text))
at_first byte [] n within denied there = absurd (omega (arith, within))
at_first byte (b ∷ bs) zero within denied there = (λ i. if there i then [] else b ∷ front_of byte bs, λ i. if there i then Some bs else behind_of byte bs)
at_first byte (b ∷ bs) (suc n) within denied there =
    let here : (b == byte) ≡ false = not_true (b == byte) (λ e. denied 0 (omega arith) e) in
    let rest = at_first byte bs n (omega (arith, within)) (λ k lt e. denied (suc k) (omega (arith, lt)) e) there in
    let next : suc (n + 1) ≡ suc n + 1 = omega arith in
    (λ i. if here i then [] else b ∷ rest.0 i, (λ i. if here i then Some bs else rest.1 i) ∙ ap (λ m. Some (drop m (b ∷ bs))) next)
