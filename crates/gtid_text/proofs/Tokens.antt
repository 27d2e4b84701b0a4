-- The tokens of set text.
use Rattle.std.proofs.Common.{◌≡◌, ℕ, suc, ◌+◌, ◌-◌, ◌*◌, ◌^◌, ◌<◌, ◌≤◌, Bool, take, get_or, subst, arith, true, false, cond, eqb, List, [], ◌∷◌, length, Option, Some, None, refl, sym, ap, ◌∙◌, inl, inr, rules, eq-eqb}
use Rattle.std.specs.List.{list_all}
use Rattle.std.specs.Char.{is_ascii_digit, digit_value}
use Rattle.std.specs.Str.Parse.{digits_value}
use Rattle.std.proofs.lemmas.Str.Parse.{IsNumeralModel, numerals_by_value, digits_value-take-le}
use Rattle.std.proofs.lemmas.Bool.{cases_lt, le-ltb, lt-ltb, cond-true}
use Rattle.std.specs.Prelude.{option_map}
use Rattle.std.specs.Int.{w128, from_be_bytes}
use Rattle.uuid.specs.Text.{parsed, parsed_hyphenated}
use Rattle.gtid_text.specs.declared.SourceId.{SourceId}
use Rattle.std.proofs.lemmas.List.{take_all}
use Rattle.std.proofs.Math.Nat.{pow-le-pow_right}
use Rattle.std.proofs.lemmas.List.Folds.{list_all_at}
use Rattle.std.proofs.lemmas.Int.Digits.{digits_value_more}
use Rattle.std.proofs.lemmas.Bool.Decides.{nat_tests}
use Rattle.gtid_text.specs.Scan.{run, small, source_of}

pub own : IsNumeralModel (λ ds. list_all is_ascii_digit ds ≡ true) (digits_value 10)
own = numerals_by_value _ (search rules)

small_some : (n k : ℕ) → Some k ≡ small n → k ≡ n
small_some n k e =
    elim (cases_lt n (2 ^ 64)) [
      | inl lt ↦ let h : Some k ≡ Some n = e ∙ rw (lt-ltb _ _ lt) refl in cc
      | inr le ↦ let h : Some k ≡ None = e ∙ rw (le-ltb _ _ le) refl in absurd cc
    ]

pub small_fits : (n k : ℕ) → Some k ≡ small n → k < 2 ^ 64
small_fits n k e =
    elim (cases_lt n (2 ^ 64)) [
      | inl lt ↦ subst (λ (m : ℕ). m < 2 ^ 64) (sym (small_some n k e)) lt
      | inr le ↦ let h : Some k ≡ None = e ∙ rw (le-ltb _ _ le) refl in absurd cc
    ]

small_none : (n : ℕ) → None ≡ small n → 2 ^ 64 ≤ n
small_none n e =
    elim (cases_lt n (2 ^ 64)) [
      | inl lt ↦ let h : None ≡ Some n = e ∙ rw (lt-ltb _ _ lt) refl in absurd cc
      | inr le ↦ le
    ]

pub digit_at : (digits : List ℕ) (i : ℕ) → list_all is_ascii_digit digits ≡ true → i < length digits → is_ascii_digit (get_or digits i 0) ≡ true
digit_at digits i all within =
    elim (is_ascii_digit (get_or digits i 0)) as (λ b. is_ascii_digit (get_or digits i 0) ≡ b → b ≡ true) [
      | true ↦ λ e. refl
      | false ↦ λ e. let k = sym all ∙ list_all_at is_ascii_digit digits i 0 within e in absurd cc
    ] refl

digit_is : (c : ℕ) → is_ascii_digit c ≡ true → digit_value c ≡ c - 48
digit_is c e = grind (arith, nat_tests)

-- one digit more
pub one_more : (digits : List ℕ) (i n : ℕ) → list_all is_ascii_digit digits ≡ true → i < length digits → n ≡ digits_value 10 (take i digits) → n * 10 + (get_or digits i 0 - 48) ≡ digits_value 10 (take (i + 1) digits)
one_more digits i n all within is =
    sym (digits_value_more 10 digits i within ∙ ap (λ (m : ℕ). m * 10 + digit_value (get_or digits i 0)) (sym is) ∙ ap (λ (d : ℕ). n * 10 + d) (digit_is (get_or digits i 0) (digit_at digits i all within)))

digit_small : (c : ℕ) → is_ascii_digit c ≡ true → c - 48 < 10
digit_small c e = grind (arith, nat_tests)

pub digit_below : (digits : List ℕ) (i d : ℕ) → list_all is_ascii_digit digits ≡ true → i < length digits → d ≡ get_or digits i 0 - 48 → d < 10
digit_below digits i d all within is = subst (λ (x : ℕ). x < 10) (sym is) (digit_small (get_or digits i 0) (digit_at digits i all within))

-- a number of so many digits, and one more
pub stays_below : (i n d : ℕ) → n < 10 ^ i → d < 10 → n * 10 + d < 10 ^ (i + 1)
stays_below i n d below digit =
    let more : n * 10 + d < 10 ^ suc i = omega arith in
    let next : suc i ≡ i + 1 = omega arith in
    subst (λ (j : ℕ). n * 10 + d < 10 ^ j) next more

pub fits_below : (i n d : ℕ) → i < 19 → n < 10 ^ i → d < 10 → n * 10 + d < 2 ^ 64
fits_below i n d few below digit =
    let most : 10 ^ suc i ≤ 10 ^ 19 = pow-le-pow_right {n = 10} (omega arith) few in
    omega arith

pub digit_read : (digits : List ℕ) (i n m : ℕ) → list_all is_ascii_digit digits ≡ true → i < length digits → n ≡ digits_value 10 (take i digits) → Some m ≡ small (n * 10 + (get_or digits i 0 - 48)) → m ≡ digits_value 10 (take (i + 1) digits)
digit_read digits i n m all within is e = small_some (n * 10 + (get_or digits i 0 - 48)) m e ∙ one_more digits i n all within is

pub too_great : (digits : List ℕ) (i n : ℕ) → list_all is_ascii_digit digits ≡ true → i < length digits → n ≡ digits_value 10 (take i digits) → None ≡ small (n * 10 + (get_or digits i 0 - 48)) → None ≡ small (digits_value 10 digits)
too_great digits i n all within is e =
    let great = small_none (n * 10 + (get_or digits i 0 - 48)) e in
    let le : 2 ^ 64 ≤ digits_value 10 digits = omega (arith, great, one_more digits i n all within is, digits_value-take-le 10 digits (i + 1) (omega arith)) in
    sym (rw (le-ltb _ _ le) refl)

pub all_read : (digits : List ℕ) (i n : ℕ) → length digits ≤ i → n < 2 ^ 64 → n ≡ digits_value 10 (take i digits) → Some n ≡ small (digits_value 10 digits)
all_read digits i n past fits is =
    let whole : n ≡ digits_value 10 digits = is ∙ ap (digits_value 10) (take_all i digits past) in
    ap Some whole ∙ sym (rw (lt-ltb _ _ (subst (λ (m : ℕ). m < 2 ^ 64) whole fits)) refl)

pub run_passes : (p : ℕ → Bool) (xs : List ℕ) → list_all p (run p xs) ≡ true
run_passes p [] = refl
run_passes p (x ∷ xs) = elim (p x) as (λ b. p x ≡ b → list_all p (cond b (x ∷ run p xs) []) ≡ true) [
  | true ↦ λ e. rw e (run_passes p xs)
  | false ↦ λ e. refl
] refl

-- a text of 36 bytes is read in the hyphenated form alone
no_source : (f : List ℕ → SourceId) (o : Option (List ℕ)) → ((u : List ℕ) × (o ≡ Some u) → ⊥) → None ≡ option_map f o
no_source f (Some u) none = absurd (none (u, refl))
no_source f None none = refl

pub source_none : (text : List ℕ) → length text ≡ 36 → ((u : List ℕ) × (parsed text ≡ Some u) → ⊥) → None ≡ source_of text
source_none text len none =
    let same : parsed text ≡ parsed_hyphenated text = rw len refl in
    let f : List ℕ → SourceId = λ bytes. from_be_bytes w128 bytes in
    no_source f (parsed_hyphenated text) (λ u. none (u.0, same ∙ u.1)) ∙ sym (cond-true (eqb (length text) 36) (option_map f (parsed_hyphenated text)) None (eq-eqb (length text) 36 len))
