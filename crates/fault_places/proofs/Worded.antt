-- The words of texts with blanks between are these texts.
use Rattle.std.proofs.Common.{◌≡◌, ℕ, ◌<◌, Bool, true, false, cond, not, List, [], ◌∷◌, ◌++◌, map, length, refl, ap, ◌∙◌, arith}
use Rattle.std.specs.Prelude.{◌==◌}
use Rattle.std.specs.List.{AllByRecursion, list_all, slice_split, onto_first}
use Rattle.std.proofs.lemmas.Bool.{and_parts}
use Rattle.row_images.specs.declared.value.Value.{Value}
use Rattle.row_images.specs.Parts.{joined_by}
use Rattle.row_images.specs.Values.{value_text}
use Rattle.row_images.specs.Images.{values_text, AreValues}
use Rattle.row_images.proofs.ValueLaws.{value_lacks, blank_is_none, bar_is_none}

-- a byte that a text doesn't have
abbrev pub lacks : ℕ → List ℕ → Bool
lacks c text = list_all (λ b. not (b == c)) text

abbrev pub AllLack : ℕ → List (List ℕ) → Type 0
AllLack c ws = AllByRecursion (λ w. lacks c w ≡ true) ws

pub lacks_parts : (c b : ℕ) (bs : List ℕ) → lacks c (b ∷ bs) ≡ true → ((b == c) ≡ false) × (lacks c bs ≡ true)
lacks_parts c b bs e = let p = and_parts (not (b == c)) (lacks c bs) e in (elim (b == c) as (λ v. not v ≡ true → v ≡ false) [ true ↦ λ h. absurd cc | false ↦ λ h. refl ] p.0, p.1)

-- ---- words

abbrev words : List ℕ → List (List ℕ)
words text = slice_split (λ b. b == 32) text

split_one : (w : List ℕ) → lacks 32 w ≡ true → words w ≡ w ∷ []
split_one [] lack = refl
split_one (b ∷ bs) lack =
    let p = lacks_parts 32 b bs lack in
    ap (λ (v : Bool). cond v ([] ∷ words bs) (onto_first b (words bs))) p.0 ∙ ap (onto_first b) (split_one bs p.1)

split_more : (w r : List ℕ) → lacks 32 w ≡ true → words (w ++ 32 ∷ r) ≡ w ∷ words r
split_more [] r lack = refl
split_more (b ∷ bs) r lack =
    let p = lacks_parts 32 b bs lack in
    ap (λ (v : Bool). cond v ([] ∷ words (bs ++ 32 ∷ r)) (onto_first b (words (bs ++ 32 ∷ r)))) p.0 ∙ ap (onto_first b) (split_more bs r p.1)

pub split_again : (w : List ℕ) (ws : List (List ℕ)) → AllLack 32 (w ∷ ws) → slice_split (λ b. b == 32) (joined_by 32 (w ∷ ws)) ≡ w ∷ ws
split_again w [] lack = split_one w lack.0
split_again w (x ∷ ws) lack = split_more w (joined_by 32 (x ∷ ws)) lack.0 ∙ ap (λ (t : List (List ℕ)). w ∷ t) (split_again x ws lack.1)

-- ---- values

-- neither a blank nor a bar is in a value
pub no_blanks : (vs : List Value) → AreValues vs → AllLack 32 (map value_text vs)
no_blanks [] fits = tt
no_blanks (v ∷ vs) fits = (value_lacks 32 v blank_is_none fits.0, no_blanks vs fits.1)

pub no_bars : (vs : List Value) → AreValues vs → AllLack 124 (map value_text vs)
no_bars [] fits = tt
no_bars (v ∷ vs) fits = (value_lacks 124 v bar_is_none fits.0, no_bars vs fits.1)

pub split_words : (row : List Value) → AreValues row → 0 < length row → slice_split (λ b. b == 32) (values_text row) ≡ map value_text row
split_words [] fits h = absurd (omega (arith, h))
split_words (v ∷ vs) fits h = split_again (value_text v) (map value_text vs) (no_blanks (v ∷ vs) fits)
