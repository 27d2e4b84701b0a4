-- The first line feed of a text.
use Rattle.std.proofs.Common.{◌≡◌, ℕ, zero, suc, ◌<◌, ◌≤◌, true, false, eqb, not, List, [], ◌∷◌, ◌++◌, length, get_or, take, drop, refl, sym, ap, ◌∙◌, ◌-◌, arith}
use Rattle.std.specs.Prelude.{◌&&◌}
use Rattle.std.specs.List.{list_all}
use Rattle.std.proofs.lemmas.List.{take_rest}
use Rattle.std.proofs.lemmas.Bool.{eqb-true}
use Rattle.txn_journal.specs.Words.{IsOneLine, BeginsWithLine}

differs : (b c : ℕ) → (eqb b c ≡ true → ⊥) → not (eqb b c) ≡ true
differs b c h = elim (eqb b c) as (λ v. (v ≡ true → ⊥) → not v ≡ true) [ true ↦ λ k. absurd (k refl) | false ↦ λ k. refl ] h

-- no line feed comes before the first
pub one_line_before : (n : ℕ) (text : List ℕ) → n ≤ length text → ((k : ℕ) → k < n → eqb (get_or text k 0) 10 ≡ true → ⊥) → IsOneLine (take n text)
one_line_before zero text le none = refl
one_line_before (suc n) [] le none = refl
one_line_before (suc n) (b ∷ bs) le none =
    (λ i. differs b 10 (none 0 (omega arith)) i && list_all (λ c. not (eqb c 10)) (take n bs))
    ∙ one_line_before n bs (omega arith) (λ k lt. none (suc k) (omega arith))

pub one_line : (text : List ℕ) → ((k : ℕ) → k < length text → eqb (get_or text k 0) 10 ≡ true → ⊥) → IsOneLine text
one_line [] none = refl
one_line (b ∷ bs) none =
    (λ i. differs b 10 (none 0 (omega arith)) i && list_all (λ c. not (eqb c 10)) bs)
    ∙ one_line bs (λ k lt. none (suc k) (omega arith))

at_feed : (n : ℕ) (text : List ℕ) → n < length text → eqb (get_or text n 0) 10 ≡ true → text ≡ take n text ++ 10 ∷ drop 1 (drop n text)
at_feed n [] lt e = absurd (omega arith)
at_feed zero (b ∷ bs) lt e = ap (λ (c : ℕ). c ∷ bs) (eqb-true b 10 e)
at_feed (suc n) (b ∷ bs) lt e = ap (λ (t : List ℕ). b ∷ t) (at_feed n bs (omega arith) e)

pub cut_found : (text : List ℕ) (at : ℕ) (front back : List ℕ) → at < length text → ((k : ℕ) → k < at → eqb (get_or text k 0) 10 ≡ true → ⊥) → eqb (get_or text at 0) 10 ≡ true → front ≡ take at text → back ≡ drop at text → BeginsWithLine text front (take (length back - 1) (drop 1 back))
cut_found text at front back lt before here f b = record {
  parts = at_feed at text lt here ∙ (λ i. sym f i ++ 10 ∷ drop 1 (sym b i)) ∙ ap (λ (t : List ℕ). front ++ 10 ∷ t) (sym (take_rest back 1));
  whole = ap (λ (t : List ℕ). list_all (λ c. not (eqb c 10)) t) f ∙ one_line_before at text (omega arith) before;
}
