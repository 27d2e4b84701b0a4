-- The first word of a text, by the run of a class of bytes that the text begins with.
use Rattle.std.proofs.Common.{◌≡◌, ℕ, zero, suc, ◌+◌, ◌%◌, ◌<◌, ◌≤◌, Bool, true, false, cond, eqb, ltb, ◌&&◌, is_some, option_map, List, [], ◌∷◌, length, get_or, take, drop, Option, Some, None, refl, sym, ap, ◌∙◌, arith, inl, inr}
use Rattle.std.specs.List.{list_all}
use Rattle.std.specs.Char.{is_ascii_digit}
use Rattle.std.specs.Str.Parse.{starts_with_minus}
use Rattle.std.proofs.lemmas.Bool.{eqb-true, and_parts, cases_eq, ltb-true, lt-ltb}
use Rattle.std.proofs.lemmas.Option.{same_Some}
use Rattle.hex.proofs.HexLemmas.{decode_of-odd}
use Rattle.row_images.specs.Words.{first_word, others, is_count}
use Rattle.row_images.specs.declared.value.Value.TheVariants.{Int}
use Rattle.row_images.specs.Runs.{is_word_end, has_idle_zero, len_where, IsRunAt}
use Rattle.row_images.specs.Values.{is_lower_digit, bytes_found, bytes_of, int_of, value_of}
use Rattle.row_images.proofs.Counts.{digits_count}
use Rattle.row_images.proofs.FewDigits.{few_digits}
use Rattle.row_images.proofs.ValueLaws.{no_digit}
use Rattle.row_images.proofs.LowerDigits.{lower_decides, other_spells_none}

-- a byte of a class that has no blank
no_blank : (q : ℕ → Bool) (b : ℕ) → q 32 ≡ false → q b ≡ true → eqb b 32 ≡ false
no_blank q b out in_it =
    elim (eqb b 32) as (λ v. eqb b 32 ≡ v → v ≡ false) [
      | true ↦ λ e. absurd (let s = sym (ap q (eqb-true b 32 e)) ∙ in_it in cc)
      | false ↦ λ e. refl
    ] refl

-- the word ends where the run does
pub record Front (q : ℕ → Bool) (t : List ℕ) (n : ℕ) : Type 0 where
  pub word : take n t ≡ first_word t
  pub all : list_all q (first_word t) ≡ true
  pub len : length (first_word t) ≡ n

pub front_all : (q : ℕ → Bool) → q 32 ≡ false → (t : List ℕ) (n : ℕ) → n ≤ length t → ((k : ℕ) → k < n → q (get_or t k 0) ≡ true) → (n < length t → eqb (get_or t n 0) 32 ≡ true) → Front q t n
front_all q out [] zero le pass ends = record { word = refl; all = refl; len = refl }
front_all q out [] (suc n) le pass ends = absurd (omega (arith, le))
front_all q out (b ∷ bs) zero le pass ends =
    let here = ends (omega arith) in
    record { word = rw here refl; all = rw here refl; len = rw here refl }
front_all q out (b ∷ bs) (suc n) le pass ends =
    let first = pass 0 (omega arith) in
    let other = no_blank q b out first in
    let rest = front_all q out bs n (omega (arith, le)) (λ k lt. pass (suc k) (omega arith)) (λ lt. ends (omega arith)) in
    record {
      word = rw other (ap (λ (w : List ℕ). b ∷ w) rest.word);
      all = rw (other, first) rest.all;
      len = rw other (ap suc rest.len);
    }

-- another byte is in the word
pub front_other : (q : ℕ → Bool) → q 32 ≡ false → (t : List ℕ) (n : ℕ) → n < length t → ((k : ℕ) → k < n → q (get_or t k 0) ≡ true) → q (get_or t n 0) ≡ false → eqb (get_or t n 0) 32 ≡ false → list_all q (first_word t) ≡ false
front_other q out [] n lt pass stop other = absurd (omega (arith, lt))
front_other q out (b ∷ bs) zero lt pass stop other = rw (other, stop) refl
front_other q out (b ∷ bs) (suc n) lt pass stop other =
    let first = pass 0 (omega arith) in
    rw (no_blank q b out first, first) (front_other q out bs n (omega arith) (λ k less. pass (suc k) (omega arith)) stop other)

byte_goes_on : (t : List ℕ) (n : ℕ) → is_word_end t n ≡ false → (n < length t) × (eqb (get_or t n 0) 32 ≡ false)
byte_goes_on t n h =
    elim (ltb n (length t)) as (λ v. ltb n (length t) ≡ v → cond v (eqb (get_or t n 0) 32) true ≡ false → (n < length t) × (eqb (get_or t n 0) 32 ≡ false)) [
      | true ↦ λ e k. (ltb-true n (length t) e, k)
      | false ↦ λ e k. absurd cc
    ] refl h

byte_ends : (t : List ℕ) (n : ℕ) → is_word_end t n ≡ true → n < length t → eqb (get_or t n 0) 32 ≡ true
byte_ends t n h lt = sym (ap (λ v. cond v (eqb (get_or t n 0) 32) true) (lt-ltb n (length t) lt)) ∙ h

run_front : (q : ℕ → Bool) → q 32 ≡ false → (t : List ℕ) (n : ℕ) → IsRunAt q t 0 n → is_word_end t n ≡ true → Front q t n
run_front q out t n run ends = front_all q out t n run.in_range (λ k less. run.pass k (omega arith) less) (byte_ends t n ends)

even : (w : List ℕ) (n : ℕ) → length w ≡ n → (n % 2 ≡ 1 → ⊥) → length w % 2 ≡ 0
even w n len odd = elim (cases_eq (n % 2) 1) [ inl e ↦ absurd (odd e) | inr other ↦ omega (arith, len, other) ]

first_within : (t : List ℕ) → length (first_word t) ≤ length t
first_within [] = omega arith
first_within (b ∷ bs) = elim (eqb b 32) as (λ v. length (cond v [] (b ∷ first_word bs)) ≤ suc (length bs)) [ true ↦ omega arith | false ↦ omega (arith, first_within bs) ]

-- a word is no longer than the text
pub word_within : (t w : List ℕ) → w ≡ first_word t → length w ≤ length t
word_within t w e = omega (arith, ap (λ (x : List ℕ). length x) e, first_within t)

pub len_none : {A : Type 0} (read : List ℕ → Option A) (t : List ℕ) → is_some (read (first_word t)) ≡ false → None ≡ len_where read t
len_none read t e = rw e refl

pub len_some : {A : Type 0} (read : List ℕ → Option A) (t : List ℕ) (n : ℕ) → is_some (read (first_word t)) ≡ true → length (first_word t) ≡ n → Some n ≡ len_where read t
len_some read t n e len = rw e (ap Some (sym len))

-- ---- digits of bytes

pub digits_other : (t : List ℕ) (n : ℕ) → IsRunAt is_lower_digit t 0 n → is_word_end t n ≡ false → None ≡ len_where bytes_of t
digits_other t n run goes_on =
    let at = byte_goes_on t n goes_on in
    len_none bytes_of t (ap is_some (other_spells_none (first_word t) (front_other is_lower_digit refl t n at.0 (λ k less. run.pass k (omega arith) less) (run.stops at.0) at.1)))

pub digits_odd : (t : List ℕ) (n : ℕ) → IsRunAt is_lower_digit t 0 n → is_word_end t n ≡ true → n % 2 ≡ 1 → None ≡ len_where bytes_of t
digits_odd t n run ends odd =
    let long : length (first_word t) % 2 ≡ 1 = omega (arith, (run_front is_lower_digit refl t n run ends).len, odd) in
    len_none bytes_of t (ap (λ r. is_some (bytes_found (first_word t) r)) (decode_of-odd (first_word t) long))

pub digits_even : (t : List ℕ) (n : ℕ) → IsRunAt is_lower_digit t 0 n → is_word_end t n ≡ true → (n % 2 ≡ 1 → ⊥) → Some n ≡ len_where bytes_of t
digits_even t n run ends odd =
    let front = run_front is_lower_digit refl t n run ends in
    let long : length (first_word t) % 2 ≡ 0 = omega (arith, front.len, even (first_word t) n front.len odd) in
    len_some bytes_of t n (sym (lower_decides (first_word t) true long (sym front.all))) front.len

-- ---- few decimal digits

some_mapped : {A B : Type 0} (f : A → B) (o : Option A) → is_some (option_map f o) ≡ is_some o
some_mapped f None = refl
some_mapped f (Some x) = refl

-- a digit begins no word but that of a number
digit_first : (w : List ℕ) → 0 < length w → list_all is_ascii_digit w ≡ true → (starts_with_minus w ≡ false) × (is_some (value_of w) ≡ is_some (int_of w))
digit_first [] some all = absurd (omega (arith, some))
digit_first (b ∷ bs) some all =
    let digit = (and_parts (is_ascii_digit b) (list_all is_ascii_digit bs) all).0 in
    (no_digit b 45 refl digit, rw (no_digit b 110 refl digit, no_digit b 120 refl digit) (some_mapped Int (int_of (b ∷ bs))))

first_byte : (t : List ℕ) (n : ℕ) → 1 ≤ n → get_or (take n t) 0 0 ≡ get_or t 0 0
first_byte t zero some = absurd (omega (arith, some))
first_byte [] (suc n) some = refl
first_byte (b ∷ bs) (suc n) some = refl

pub few_front : (t : List ℕ) (n : ℕ) → IsRunAt is_ascii_digit t 0 n → is_word_end t n ≡ true → 1 ≤ n → n ≤ 18 → has_idle_zero t n ≡ false → Some n ≡ len_where value_of t
few_front t n run ends some few well =
    let front = run_front is_ascii_digit refl t n run ends in
    let w = first_word t in
    let long : 0 < length w = omega (arith, front.len, some) in
    let first = digit_first w long front.all in
    let first_same : get_or w 0 0 ≡ get_or t 0 0 = sym (ap (λ (v : List ℕ). get_or v 0 0) front.word) ∙ first_byte t n some in
    let counted : is_count w ≡ true = digits_count w long ((λ i. ltb 1 (front.len i) && eqb (first_same i) 48) ∙ well) front.all in
    len_some value_of t n (first.1 ∙ sym (few_digits w first.0 (omega (arith, front.len, few))) ∙ counted) front.len

-- ---- what follows the first word

-- what the length of the first word reports
length_told : {A : Type 0} (read : List ℕ → Option A) (t : List ℕ) (n : ℕ) (o : Option A) → read (first_word t) ≡ o → Some n ≡ cond (is_some o) (Some (length (first_word t))) None → (is_some (read (first_word t)) ≡ true) × (n ≡ length (first_word t))
length_told read t n None e h = absurd cc
length_told read t n (Some x) e h = (ap is_some e, same_Some n (length (first_word t)) h)

pub value_there : {A : Type 0} (read : List ℕ → Option A) (t : List ℕ) (n : ℕ) → Some n ≡ len_where read t → (is_some (read (first_word t)) ≡ true) × (n ≡ length (first_word t))
value_there read t n h = length_told read t n (read (first_word t)) refl h

none_told : {A : Type 0} (n : ℕ) (o : Option A) → None ≡ cond (is_some o) (Some n) None → is_some o ≡ false
none_told n None h = refl
none_told n (Some x) h = absurd cc

pub no_value_there : {A : Type 0} (read : List ℕ → Option A) (t : List ℕ) → None ≡ len_where read t → is_some (read (first_word t)) ≡ false
no_value_there read t h = none_told (length (first_word t)) (read (first_word t)) h

pub others_after : (t : List ℕ) → length (first_word t) < length t → others t ≡ Some (drop (length (first_word t) + 1) t)
others_after [] lt = absurd (omega (arith, lt))
others_after (b ∷ bs) lt =
    elim (eqb b 32) as (λ v. length (cond v [] (b ∷ first_word bs)) < suc (length bs) → cond v (Some bs) (others bs) ≡ Some (drop (length (cond v [] (b ∷ first_word bs)) + 1) (b ∷ bs))) [
      | true ↦ λ less. refl
      | false ↦ λ less.
          let one : suc (length (first_word bs)) + 1 ≡ suc (length (first_word bs) + 1) = omega arith in
          others_after bs (omega (arith, less)) ∙ ap (λ k. Some (drop k (b ∷ bs))) (sym one)
    ] lt

pub others_none : (t : List ℕ) → length t ≤ length (first_word t) → others t ≡ None
others_none [] le = refl
others_none (b ∷ bs) le =
    elim (eqb b 32) as (λ v. suc (length bs) ≤ length (cond v [] (b ∷ first_word bs)) → cond v (Some bs) (others bs) ≡ None) [
      | true ↦ λ all. absurd (omega (arith, all))
      | false ↦ λ all. others_none bs (omega (arith, all))
    ] le
