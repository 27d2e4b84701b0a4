-- Where the first word of a line ends.
use Rattle.std.proofs.Common.{◌≡◌, ℕ, zero, suc, ◌+◌, ◌<◌, ◌≤◌, true, false, cond, eqb, List, [], ◌∷◌, length, get_or, take, drop, Some, None, refl, ap, ◌∙◌, arith, inl, inr}
use Rattle.row_images.specs.Words.{first_word, others}
use Rattle.row_images.specs.Runs.{is_word_byte, IsRunAt}
use Rattle.std.proofs.lemmas.Option.{same_Some}
use Rattle.gtid_text.proofs.Turns.{chosen}

pub others-shorter : (line rest : List ℕ) → others line ≡ Some rest → length rest < length line
others-shorter [] rest e = absurd cc
others-shorter (b ∷ bs) rest e = elim (chosen (eqb b 32) (Some bs) (others bs) (Some rest) e) [
  | inl p ↦ let k = ap (λ (x : List ℕ). length x) (same_Some bs rest p.1) in omega arith
  | inr p ↦ let k = others-shorter bs rest p.1 in omega arith
]

-- ---- the first blank

differs : (b c : ℕ) → (eqb b c ≡ true → ⊥) → eqb b c ≡ false
differs b c h = elim (eqb b c) as (λ v. (v ≡ true → ⊥) → v ≡ false) [ true ↦ λ k. absurd (k refl) | false ↦ λ k. refl ] h

pub no_blank : (line : List ℕ) → ((k : ℕ) → k < length line → eqb (get_or line k 0) 32 ≡ true → ⊥) → (line ≡ first_word line) × (None ≡ others line)
no_blank [] none = (refl, refl)
no_blank (b ∷ bs) none =
    let later = no_blank bs (λ k lt. none (suc k) (omega arith)) in
    let here = differs b 32 (none 0 (omega arith)) in (
      rw here (ap (λ (t : List ℕ). b ∷ t) later.0),
      rw here later.1,
    )

pub at_blank : (n : ℕ) (line : List ℕ) → n < length line → ((k : ℕ) → k < n → eqb (get_or line k 0) 32 ≡ true → ⊥) → eqb (get_or line n 0) 32 ≡ true → (take n line ≡ first_word line) × (Some (drop (n + 1) line) ≡ others line)
at_blank n [] lt before here = absurd (omega arith)
at_blank zero (b ∷ bs) lt before here = (rw here refl, rw here refl)
at_blank (suc n) (b ∷ bs) lt before here =
    let later = at_blank n bs (omega arith) (λ k less. before (suc k) (omega arith)) here in
    let other = differs b 32 (before 0 (omega arith)) in
    let one : suc n + 1 ≡ suc (n + 1) = omega arith in (
      rw other (ap (λ (t : List ℕ). b ∷ t) later.0),
      rw other (ap (λ m. Some (drop m (b ∷ bs))) one ∙ later.1),
    )

-- ---- a run of word bytes from the first on

no_blank_at : (b : ℕ) → is_word_byte b ≡ true → eqb b 32 ≡ true → ⊥
no_blank_at b word blank = absurd (let e : is_word_byte b ≡ false = rw blank refl in cc)

a_blank : (b : ℕ) → is_word_byte b ≡ false → eqb b 32 ≡ true
a_blank b h = elim (eqb b 32) as (λ v. cond v false true ≡ false → v ≡ true) [ true ↦ λ e. refl | false ↦ λ e. absurd cc ] h

-- what the run is, and what follows its blank
pub run_cut : (line : List ℕ) (n : ℕ) → IsRunAt is_word_byte line 0 n → n < length line → (take n line ≡ first_word line) × (Some (drop (n + 1) line) ≡ others line)
run_cut line n run lt = at_blank n line lt (λ k less. no_blank_at (get_or line k 0) (run.pass k (omega arith) less)) (a_blank (get_or line n 0) (run.stops lt))

pub run_alone : (line : List ℕ) (n : ℕ) → IsRunAt is_word_byte line 0 n → length line ≤ n → (line ≡ first_word line) × (None ≡ others line)
run_alone line n run all = no_blank line (λ k less. no_blank_at (get_or line k 0) (run.pass k (omega arith) (omega arith)))
