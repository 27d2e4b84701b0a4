-- Numbers and words: reading is sound and complete.
use Rattle.std.proofs.Common.{◌≡◌, ℕ, ◌^◌, ◌<◌, ◌≤◌, Bool, true, false, cond, List, [], ◌∷◌, length, Some, None, Result, Ok, Err, refl, sym, ap, ◌∙◌, arith, inl, inr}
use Rattle.std.specs.Prelude.{◌&&◌, ◌||◌}
use Rattle.std.specs.List.{list_all}
use Rattle.std.specs.Char.{is_ascii_digit}
use Rattle.std.specs.Str.{IsUtf8}
use Rattle.std.specs.Str.Parse.{digits_value, ParsesUnsigned}
use Rattle.std.specs.Result.{OkIff, result_ok}
use Rattle.std.proofs.lemmas.Str.{IsUtf8-from_ascii}
use Rattle.std.proofs.lemmas.Str.Parse.{parse_digits}
use Rattle.std.proofs.lemmas.Fmt.{IsAscii-from_digits}
use Rattle.std.proofs.lemmas.Bool.{cases_lt, le-ltb, lt-ltb}
use Rattle.row_images.specs.Words.{is_count, count_of}
use Rattle.gtid_text.proofs.Tokens.{own}

-- a test that fails, and then one that passes
second : (a b : Bool) → cond a false b ≡ true → (a ≡ false) × (b ≡ true)
second true b e = absurd cc
second false b e = (refl, e)

either : (a b : Bool) → (a || b) ≡ false → a ≡ false
either true b e = absurd cc
either false b e = refl

pub digits_in : (word : List ℕ) → is_count word ≡ true → (0 < length word) × (list_all is_ascii_digit word ≡ true)
digits_in [] e = absurd cc
digits_in (c ∷ cs) e = (omega arith, (second _ _ e).1)

pub utf8_in : (word : List ℕ) → is_count word ≡ true → IsUtf8 word
utf8_in word e = IsUtf8-from_ascii word (IsAscii-from_digits word (own.to word (digits_in word e).1))

-- what a number is that is small enough, and of one that is not
pub count_small : (word : List ℕ) → is_count word ≡ true → digits_value 10 word < 2 ^ 64 → count_of word ≡ Some (digits_value 10 word)
count_small word e lt = rw (e, lt-ltb _ _ lt) refl

count_large : (word : List ℕ) → 2 ^ 64 ≤ digits_value 10 word → count_of word ≡ None
count_large word le = rw (le-ltb _ _ le) (elim (is_count word) as (λ b. cond (b && false) (Some (digits_value 10 word)) None ≡ None) [ true ↦ refl | false ↦ refl ])

pub count_none : (word : List ℕ) → is_count word ≡ false → None ≡ count_of word
count_none word e = rw e refl

pub parsed_count : {E : Type 0} (word : List ℕ) (r : Result ℕ E) → is_count word ≡ true → ParsesUnsigned 64 10 word r → result_ok r ≡ count_of word
parsed_count {E} word (Ok n) e h =
    let d = digits_in word e in
    let p : OkIff {E = E} (Ok n) ((0 < length word) × (digits_value 10 word < 2 ^ 64)) (digits_value 10 word) = parse_digits own {E = E} 64 word (Ok n) h d.1 in
    ap Some p.1 ∙ sym (count_small word e p.0.1)
parsed_count {E} word (Err f) e h =
    let d = digits_in word e in
    let p = parse_digits own {E = E} 64 word (Err f) h d.1 in
    elim (cases_lt (digits_value 10 word) (2 ^ 64)) [
      | inl lt ↦ absurd (p (d.0, lt))
      | inr le ↦ sym (count_large word le)
    ]
