-- Words and lines: reading is sound and complete.
use Rattle.std.proofs.Common.{◌≡◌, ℕ, zero, suc, ◌^◌, ◌<◌, Bool, true, false, cond, eqb, ltb, not, List, [], ◌∷◌, ◌++◌, length, get_or, Some, None, refl, sym, ap, ◌∙◌, arith, inl, inr}
use Rattle.std.specs.Prelude.{◌&&◌, ◌||◌}
use Rattle.std.specs.List.{list_all}
use Rattle.std.specs.Char.{is_ascii_digit}
use Rattle.std.specs.Str.Parse.{digits_value}
use Rattle.std.specs.Fmt.{decimal}
use Rattle.std.proofs.lemmas.Fmt.{digits_decimal, digits_value-decimal, decimal-digits_value, first_decimal, decimal_nonempty, decimal_digit}
use Rattle.std.proofs.lemmas.Bool.{cases_lt, lt-ltb, ltb-true, eqb-true, ne_eqb, and_parts}
use Rattle.row_images.specs.Words.{is_count, count_of, first_word, others}
use Rattle.row_images.proofs.Numerals.{digits_in}
use Rattle.std.proofs.lemmas.Option.{same_Some}
use Rattle.gtid_text.proofs.Tokens.{own}
use Rattle.gtid_text.proofs.Turns.{chosen}

-- ---- words

-- the byte is not among these
abbrev pub lacks : ℕ → List ℕ → Bool
lacks c bytes = list_all (λ b. not (eqb b c)) bytes

pub lacks-parts : (c b : ℕ) (bs : List ℕ) → lacks c (b ∷ bs) ≡ true → (eqb b c ≡ false) × (lacks c bs ≡ true)
lacks-parts c b bs e = let p = and_parts (not (eqb b c)) (lacks c bs) e in (elim (eqb b c) as (λ v. not v ≡ true → v ≡ false) [ true ↦ λ h. absurd cc | false ↦ λ h. refl ] p.0, p.1)

pub first_word-whole : (w : List ℕ) → lacks 32 w ≡ true → first_word w ≡ w
first_word-whole [] e = refl
first_word-whole (b ∷ bs) e = let p = lacks-parts 32 b bs e in rw p.0 (ap (λ (t : List ℕ). b ∷ t) (first_word-whole bs p.1))

pub others-whole : (w : List ℕ) → lacks 32 w ≡ true → others w ≡ None
others-whole [] e = refl
others-whole (b ∷ bs) e = let p = lacks-parts 32 b bs e in rw p.0 (others-whole bs p.1)

pub first_word-front : (w r : List ℕ) → lacks 32 w ≡ true → first_word (w ++ 32 ∷ r) ≡ w
first_word-front [] r e = refl
first_word-front (b ∷ bs) r e = let p = lacks-parts 32 b bs e in rw p.0 (ap (λ (t : List ℕ). b ∷ t) (first_word-front bs r p.1))

pub others-front : (w r : List ℕ) → lacks 32 w ≡ true → others (w ++ 32 ∷ r) ≡ Some r
others-front [] r e = refl
others-front (b ∷ bs) r e = let p = lacks-parts 32 b bs e in rw p.0 (others-front bs r p.1)

pub word_alone : (line : List ℕ) → others line ≡ None → line ≡ first_word line
word_alone [] e = refl
word_alone (b ∷ bs) e =
    elim (chosen (eqb b 32) (Some bs) (others bs) None e) [
      | inl p ↦ absurd cc
      | inr p ↦ rw p.0 (ap (λ (t : List ℕ). b ∷ t) (word_alone bs p.1))
    ]

pub word_and_more : (line r : List ℕ) → others line ≡ Some r → line ≡ first_word line ++ 32 ∷ r
word_and_more [] r e = absurd cc
word_and_more (b ∷ bs) r e =
    elim (chosen (eqb b 32) (Some bs) (others bs) (Some r) e) [
      | inl p ↦ rw (p.0, eqb-true _ _ p.0, same_Some bs r p.1) refl
      | inr p ↦ rw p.0 (ap (λ (t : List ℕ). b ∷ t) (word_and_more bs r p.1))
    ]

-- ---- numbers

digit_lacks : (c b : ℕ) → is_ascii_digit c ≡ false → is_ascii_digit b ≡ true → not (eqb b c) ≡ true
digit_lacks c b out digit =
    elim (chosen (eqb b c) true false (eqb b c) (elim (eqb b c) as (λ v. cond v true false ≡ v) [ true ↦ refl | false ↦ refl ])) [
      | inl p ↦ absurd (let e = eqb-true b c p.0 in cc)
      | inr p ↦ rw p.0 refl
    ]

digits_lack : (c : ℕ) (ds : List ℕ) → is_ascii_digit c ≡ false → list_all is_ascii_digit ds ≡ true → lacks c ds ≡ true
digits_lack c [] out e = refl
digits_lack c (d ∷ ds) out e =
    let p = and_parts (is_ascii_digit d) (list_all is_ascii_digit ds) e in
    rw (digit_lacks c d out p.0) (digits_lack c ds out p.1)

pub decimal_lacks : (c n : ℕ) → is_ascii_digit c ≡ false → n < 2 ^ 64 → lacks c (decimal n) ≡ true
decimal_lacks c n out lt = digits_lack c (decimal n) out (digits_decimal own n lt)

-- no zero before other digits
starts_well : (n : ℕ) → n < 2 ^ 64 → (ltb 1 (length (decimal n)) && eqb (get_or (decimal n) 0 0) 48) ≡ false
starts_well zero lt = rw (decimal_digit 0 (omega arith)) refl
starts_well (suc n) lt =
    let first : 48 < get_or (decimal (suc n)) 0 0 = first_decimal (suc n) (omega arith) lt in
    let apart : eqb (get_or (decimal (suc n)) 0 0) 48 ≡ false = ne_eqb _ _ (omega arith) in
    rw apart (elim (ltb 1 (length (decimal (suc n)))) as (λ b. (b && false) ≡ false) [ true ↦ refl | false ↦ refl ])

passes : (a b d : Bool) → a ≡ false → b ≡ false → d ≡ true → cond (a || b) false d ≡ true
passes a b d x y z = rw (x, y, z) refl

pub digits_count : (w : List ℕ) → 0 < length w → (ltb 1 (length w) && eqb (get_or w 0 0) 48) ≡ false → list_all is_ascii_digit w ≡ true → is_count w ≡ true
digits_count w some well all = passes (eqb (length w) 0) _ _ (ne_eqb (length w) 0 (omega arith)) well all

pub is_count_decimal : (n : ℕ) → n < 2 ^ 64 → is_count (decimal n) ≡ true
is_count_decimal n lt = digits_count (decimal n) (decimal_nonempty n lt) (starts_well n lt) (digits_decimal own n lt)

pub count_again : (n : ℕ) → n < 2 ^ 64 → count_of (decimal n) ≡ Some n
count_again n lt = rw (is_count_decimal n lt, digits_value-decimal own n lt, lt-ltb _ _ lt) refl

-- a word that is a number begins with no zero that isn't alone
stops_at : (a b d : Bool) → b ≡ true → cond (a || b) false d ≡ true → ⊥
stops_at true b d y e = absurd cc
stops_at false b d y e = absurd (let f : cond b false d ≡ false = rw y refl in cc)

zero_alone : (w : List ℕ) → is_count w ≡ true → get_or w 0 0 ≡ 48 → length w ≡ 1
zero_alone w e h =
    let some : 0 < length w = (digits_in w e).0 in
    elim (cases_lt 1 (length w)) [
      | inl more ↦ absurd (stops_at (eqb (length w) 0) (ltb 1 (length w) && eqb (get_or w 0 0) 48) (list_all is_ascii_digit w) (rw (lt-ltb _ _ more, h) refl) e)
      | inr le ↦ omega arith
    ]

pub count_found : (w : List ℕ) (n : ℕ) → count_of w ≡ Some n → (w ≡ decimal n) × (n < 2 ^ 64)
count_found w n e =
    elim (chosen (is_count w && ltb (digits_value 10 w) (2 ^ 64)) (Some (digits_value 10 w)) None (Some n) e) [
      | inr p ↦ absurd cc
      | inl p ↦
          let q = and_parts (is_count w) (ltb (digits_value 10 w) (2 ^ 64)) p.0 in
          let d = digits_in w q.0 in
          let lt : digits_value 10 w < 2 ^ 64 = ltb-true _ _ q.1 in
          let v : digits_value 10 w ≡ n = same_Some _ _ p.1 in
          (sym (decimal-digits_value own w d.1 d.0 (zero_alone w q.0) lt) ∙ ap decimal v, rw (← v) lt)
    ]
