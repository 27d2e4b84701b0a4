-- Values: reading is sound and complete.
use Rattle.std.proofs.Common.{◌≡◌, ℕ, zero, suc, ◌^◌, ◌<◌, ◌≤◌, drop, true, false, cond, eqb, not, ◌/◌, ◌%◌, List, [], ◌∷◌, length, get_or, Option, Some, None, Result, Ok, Err, refl, sym, ap, subst, ◌∙◌, arith, inl, inr, ℤ, pos, negsuc}
use Rattle.std.specs.Prelude.{codes, FitsSigned, option_map}
use Rattle.std.specs.Int.{w64}
use Rattle.std.specs.Fmt.{decimal, signed_decimal}
use Rattle.std.specs.List.{list_all}
use Rattle.std.specs.Char.{is_ascii_digit}
use Rattle.std.specs.Str.{bytes_eq}
use Rattle.std.specs.Str.Parse.{digits_value, starts_with_minus}
use Rattle.std.proofs.lemmas.Fmt.{digits_decimal, digits_value-decimal, decimal_nonempty}
use Rattle.std.proofs.lemmas.Bool.{lt-ltb, ltb-true, eqb-true, ne_eqb, and_parts}
use Rattle.std.proofs.lemmas.Slice.Eq.{bytes_eq-Decides}
use Rattle.std.proofs.lemmas.Int.{to_z-of_z, to_z_pos}
use mir.Val.{to_z, of_z}
use Rattle.hex.specs.Hex.{IsBytes, decode_of, encode_lower, encode_with, lower_digits}
use Rattle.hex.specs.declared.error.FromHexError.{FromHexError}
use Rattle.hex.proofs.HexLemmas.{decode_of-encode_lower, decode_of-ok}
use Rattle.row_images.specs.declared.value.Value.{Value}
use Rattle.row_images.specs.declared.value.Value.TheVariants.{Null, Int, Bytes}
use Rattle.row_images.specs.Words.{count_of}
use Rattle.row_images.specs.Values.{value_text, where_same, below_zero, signed_value, is_small, int_of, bytes_found, bytes_of, other_value, value_of, FitsValue}
use Rattle.row_images.proofs.Counts.{lacks, decimal_lacks, count_found, count_again}
use Rattle.std.proofs.lemmas.Option.{same_Some}
use Rattle.gtid_text.proofs.Tokens.{own}
use Rattle.gtid_text.proofs.Turns.{chosen}

map_some : {A B : Type 0} (f : A → B) (o : Option A) (y : B) → option_map f o ≡ Some y → (x : A) × (o ≡ Some x) × (f x ≡ y)
map_some f (Some x) y e = (x, refl, same_Some (f x) y e)
map_some f None y e = absurd cc

-- ---- the text of what is found is the word

pub same_bytes : (w : List ℕ) → bytes_eq w w ≡ true
same_bytes w = (bytes_eq-Decides w w).1 refl

pub where_same-again : {A : Type 0} (text : A → List ℕ) (x : A) → where_same text (text x) x ≡ Some x
where_same-again text x = rw (same_bytes (text x)) refl

pub where_same-found : {A : Type 0} (text : A → List ℕ) (word : List ℕ) (x y : A) → where_same text word x ≡ Some y → (word ≡ text y) × (x ≡ y)
where_same-found text word x y e =
    elim (chosen (bytes_eq (text x) word) (Some x) None (Some y) e) [
      | inl p ↦ let same = same_Some x y p.1 in (sym ((bytes_eq-Decides (text x) word).0 p.0) ∙ ap text same, same)
      | inr p ↦ absurd cc
    ]

pub none_is : {A : Type 0} (o : Option A) → ((x : A) → o ≡ Some x → ⊥) → None ≡ o
none_is (Some x) h = absurd (h x refl)
none_is None h = refl

-- ---- numbers

no_sign : (b : ℕ) → is_ascii_digit b ≡ true → eqb b 45 ≡ false
no_sign b digit =
    elim (chosen (eqb b 45) true false (eqb b 45) (elim (eqb b 45) as (λ v. cond v true false ≡ v) [ true ↦ refl | false ↦ refl ])) [
      | inl p ↦ absurd (let e = eqb-true b 45 p.0 in cc)
      | inr p ↦ p.0
    ]

digits_signed : (w : List ℕ) → list_all is_ascii_digit w ≡ true → 0 < length w → signed_value w ≡ pos (digits_value 10 w)
digits_signed [] all some = absurd (omega arith)
digits_signed (b ∷ bs) all some = rw (no_sign b (and_parts (is_ascii_digit b) (list_all is_ascii_digit bs) all).0) refl

value_again : (z : ℤ) → FitsSigned w64 z → (signed_value (signed_decimal z) ≡ z) × (is_small z ≡ true)
value_again (pos n) fits =
    let lt : n < 2 ^ 63 = omega (arith, fits) in
    let big : n < 2 ^ 64 = omega arith in
    (digits_signed (decimal n) (digits_decimal own n big) (decimal_nonempty n big) ∙ ap pos (digits_value-decimal own n big), lt-ltb _ _ lt)
value_again (negsuc n) fits =
    let lt : n < 2 ^ 63 = omega (arith, fits) in
    let big : suc n < 2 ^ 64 = omega arith in
    (ap below_zero (digits_value-decimal own (suc n) big), lt-ltb _ _ lt)

pub int_again : (z : ℤ) → FitsSigned w64 z → int_of (signed_decimal z) ≡ Some z
int_again z fits = let v = value_again z fits in rw (v.0, v.1) (where_same-again signed_decimal z)

small_fits : (z : ℤ) → is_small z ≡ true → FitsSigned w64 z
small_fits (pos n) e = let lt = ltb-true _ _ e in omega (arith, lt)
small_fits (negsuc n) e = let lt = ltb-true _ _ e in omega (arith, lt)

pub int_found : (w : List ℕ) (z : ℤ) → int_of w ≡ Some z → (w ≡ signed_decimal z) × FitsSigned w64 z
int_found w z e =
    elim (chosen (is_small (signed_value w)) (where_same signed_decimal w (signed_value w)) None (Some z) e) [
      | inl p ↦ let f = where_same-found signed_decimal w (signed_value w) z p.1 in (f.0, small_fits z (ap is_small (sym f.1) ∙ p.0))
      | inr p ↦ absurd cc
    ]

no_minus : (m : ℕ) (ds : List ℕ) → m < 2 ^ 64 → 45 ∷ ds ≡ decimal m → ⊥
no_minus m ds lt e = let k = ap (list_all is_ascii_digit) e ∙ digits_decimal own m lt in cc

-- the number after a minus, if there is one
pub below_found : (ds : List ℕ) (n : ℕ) → count_of ds ≡ Some n → 1 ≤ n → n ≤ 2 ^ 63 → int_of (45 ∷ ds) ≡ Some (below_zero n)
below_found ds zero e low high = absurd (omega (arith, low))
below_found ds (suc n) e low high = ap (λ (w : List ℕ). int_of (45 ∷ w)) (count_found ds (suc n) e).0 ∙ int_again (negsuc n) (small_fits (negsuc n) (lt-ltb n (2 ^ 63) (omega (arith, high))))

pub below_none : (ds : List ℕ) → ((n : ℕ) → count_of ds ≡ Some n → 1 ≤ n → n ≤ 2 ^ 63 → ⊥) → None ≡ int_of (45 ∷ ds)
below_none ds none = none_is (int_of (45 ∷ ds)) (λ z e. let f = int_found (45 ∷ ds) z e in by z f.0 f.1)
  where
    by : (z : ℤ) → 45 ∷ ds ≡ signed_decimal z → FitsSigned w64 z → ⊥
    by (pos m) e fits = no_minus m ds (omega (arith, fits)) e
    by (negsuc m) e fits =
        let same : ds ≡ decimal (suc m) = ap (drop 1) e in
        none (suc m) (ap count_of same ∙ count_again (suc m) (omega (arith, fits))) (omega arith) (omega (arith, fits))

fits_below : (n : ℕ) → 1 ≤ n → n ≤ 2 ^ 63 → FitsSigned w64 (below_zero n)
fits_below zero low high = absurd (omega (arith, low))
fits_below (suc n) low high = small_fits (negsuc n) (lt-ltb n (2 ^ 63) (omega (arith, high)))

pub below_is : (ds : List ℕ) (n : ℕ) (z : ℤ) → z ≡ below_zero n → Some n ≡ count_of ds → 1 ≤ n → n ≤ 2 ^ 63 → Some (to_z w64 (of_z w64 z)) ≡ int_of (45 ∷ ds)
below_is ds n z same e low high =
    ap Some (ap (λ (y : ℤ). to_z w64 (of_z w64 y)) same ∙ to_z-of_z w64 (below_zero n) (fits_below n low high)) ∙ sym (below_found ds n (sym e) low high)

pub below_out : (ds : List ℕ) (number : ℕ) → Some number ≡ count_of ds → (1 ≤ number → number ≤ 2 ^ 63 → ⊥) → None ≡ int_of (45 ∷ ds)
below_out ds number e out = below_none ds (λ n f low high. let same : number ≡ n = same_Some number n (e ∙ f) in out (omega (arith, same, low)) (omega (arith, same, high)))

pub below_less : (ds : List ℕ) → None ≡ count_of ds → None ≡ int_of (45 ∷ ds)
below_less ds e = below_none ds (λ n f low high. let k = e ∙ f in cc)

-- the number without a minus, if there is one
pub above_found : (w : List ℕ) (n : ℕ) → count_of w ≡ Some n → n < 2 ^ 63 → int_of w ≡ Some (pos n)
above_found w n e lt = ap int_of (count_found w n e).0 ∙ int_again (pos n) (small_fits (pos n) (lt-ltb n (2 ^ 63) lt))

pub above_none : (w : List ℕ) → starts_with_minus w ≡ false → ((n : ℕ) → count_of w ≡ Some n → n < 2 ^ 63 → ⊥) → None ≡ int_of w
above_none w other none = none_is (int_of w) (λ z e. let f = int_found w z e in by z f.0 f.1)
  where
    by : (z : ℤ) → w ≡ signed_decimal z → FitsSigned w64 z → ⊥
    by (pos m) e fits = none m (ap count_of e ∙ count_again m (omega (arith, fits))) (omega (arith, fits))
    by (negsuc m) e fits = let k = sym (ap starts_with_minus e) ∙ other in cc

pub above_is : (w : List ℕ) (n : ℕ) → Some n ≡ count_of w → n < 2 ^ 63 → Some (to_z w64 n) ≡ int_of w
above_is w n e lt = ap Some (to_z_pos w64 n lt) ∙ sym (above_found w n (sym e) lt)

pub above_out : (w : List ℕ) (number : ℕ) → starts_with_minus w ≡ false → Some number ≡ count_of w → (number < 2 ^ 63 → ⊥) → None ≡ int_of w
above_out w number other e out = above_none w other (λ n f lt. let same : number ≡ n = same_Some number n (e ∙ f) in out (omega (arith, same, lt)))

pub above_less : (w : List ℕ) → starts_with_minus w ≡ false → None ≡ count_of w → None ≡ int_of w
above_less w other e = above_none w other (λ n f lt. let k = e ∙ f in cc)

-- ---- bytes

pub bytes_again : (bs : List ℕ) → IsBytes bs → bytes_of (encode_lower bs) ≡ Some bs
bytes_again bs fits = ap (bytes_found (encode_lower bs)) (decode_of-encode_lower bs fits) ∙ where_same-again encode_lower bs

bytes_in : (ds : List ℕ) (r : Result (List ℕ) FromHexError) (bs : List ℕ) → bytes_found ds r ≡ Some bs → (ds ≡ encode_lower bs) × (r ≡ Ok bs)
bytes_in ds (Ok bytes) bs e = let f = where_same-found encode_lower ds bytes bs e in (f.0, ap Ok f.1)
bytes_in ds (Err d) bs e = absurd cc

pub bytes_found-same : (ds bs : List ℕ) → bytes_of ds ≡ Some bs → (ds ≡ encode_lower bs) × IsBytes bs
bytes_found-same ds bs e = let f = bytes_in ds (decode_of ds) bs e in (f.0, (decode_of-ok ds bs f.1).3)

-- ---- values

pub no_digit : (b c : ℕ) → is_ascii_digit c ≡ false → is_ascii_digit b ≡ true → eqb b c ≡ false
no_digit b c out digit = ne_eqb b c (λ e. let k = ap is_ascii_digit e in cc)

number_word : (w : List ℕ) → list_all is_ascii_digit w ≡ true → 0 < length w → value_of w ≡ option_map Int (int_of w)
number_word [] all some = absurd (omega arith)
number_word (b ∷ bs) all some =
    let digit = (and_parts (is_ascii_digit b) (list_all is_ascii_digit bs) all).0 in
    rw (no_digit b 110 refl digit, no_digit b 120 refl digit) refl

int_word : (z : ℤ) → FitsSigned w64 z → value_of (signed_decimal z) ≡ option_map Int (int_of (signed_decimal z))
int_word (pos n) fits =
    let big : n < 2 ^ 64 = omega (arith, fits) in
    number_word (decimal n) (digits_decimal own n big) (decimal_nonempty n big)
int_word (negsuc n) fits = refl

pub value_of-text : (v : Value) → FitsValue v → value_of (value_text v) ≡ Some v
value_of-text Null fits = refl
value_of-text (Int z) fits = int_word z fits ∙ ap (option_map Int) (int_again z fits)
value_of-text (Bytes bs) fits = ap (option_map Bytes) (bytes_again bs fits)

Found : List ℕ → Value → Type 0
Found w v = (w ≡ value_text v) × FitsValue v

int_value : (w : List ℕ) (v : Value) → option_map Int (int_of w) ≡ Some v → Found w v
unfolding Found
int_value w v e =
    let m = map_some Int (int_of w) v e in
    let f = int_found w m.0 m.1 in
    subst (λ (x : Value). (w ≡ value_text x) × FitsValue x) m.2 f

other_found : (w : List ℕ) (v : Value) → other_value w ≡ Some v → Found w v
unfolding Found
other_found [] v e = int_value [] v e
other_found (b ∷ bs) v e =
    elim (chosen (eqb b 120) (option_map Bytes (bytes_of bs)) (option_map Int (int_of (b ∷ bs))) (Some v) e) [
      | inl p ↦
          let m = map_some Bytes (bytes_of bs) v p.1 in
          let f = bytes_found-same bs m.0 m.1 in
          subst (λ (x : Value). (b ∷ bs ≡ value_text x) × FitsValue x) m.2 ((λ i. eqb-true b 120 p.0 i ∷ f.0 i), f.1)
      | inr p ↦ int_value (b ∷ bs) v p.1
    ]

pub value_of-found : (w : List ℕ) (v : Value) → value_of w ≡ Some v → (w ≡ value_text v) × FitsValue v
unfolding Found
value_of-found w v e =
    elim (chosen (bytes_eq w (codes "null")) (Some Null) (other_value w) (Some v) e) [
      | inl p ↦ subst (λ (x : Value). (w ≡ value_text x) × FitsValue x) (same_Some Null v p.1) ((bytes_eq-Decides w (codes "null")).0 p.0, tt)
      | inr p ↦ other_found w v p.1
    ]

-- ---- no blank and no line feed is in a value's word

at_lacks : (c : ℕ) (xs : List ℕ) (k : ℕ) → lacks c xs ≡ true → eqb 0 c ≡ false → not (eqb (get_or xs k 0) c) ≡ true
at_lacks c [] k all nul = ap not nul
at_lacks c (x ∷ xs) zero all nul = (and_parts (not (eqb x c)) (lacks c xs) all).0
at_lacks c (x ∷ xs) (suc k) all nul = at_lacks c xs k (and_parts (not (eqb x c)) (lacks c xs) all).1 nul

digits_lack : (c : ℕ) (bs : List ℕ) → lacks c lower_digits ≡ true → eqb 0 c ≡ false → lacks c (encode_lower bs) ≡ true
unfolding encode_with
digits_lack c [] all nul = refl
digits_lack c (b ∷ bs) all nul = rw (at_lacks c lower_digits (b / 16) all nul, at_lacks c lower_digits (b % 16) all nul) (digits_lack c bs all nul)

-- the bytes that are in no value's word
pub record IsNoValueByte (c : ℕ) : Type 0 where
  pub no_digit : is_ascii_digit c ≡ false
  pub no_hex : lacks c lower_digits ≡ true
  pub no_zero : eqb 0 c ≡ false
  pub no_null : lacks c (codes "null") ≡ true
  pub no_x : not (eqb 120 c) ≡ true
  pub no_minus : not (eqb 45 c) ≡ true

signed_lacks : (c : ℕ) (z : ℤ) → IsNoValueByte c → FitsSigned w64 z → lacks c (signed_decimal z) ≡ true
signed_lacks c (pos n) out fits = decimal_lacks c n out.no_digit (omega (arith, fits))
signed_lacks c (negsuc n) out fits = rw out.no_minus (decimal_lacks c (suc n) out.no_digit (omega (arith, fits)))

pub value_lacks : (c : ℕ) (v : Value) → IsNoValueByte c → FitsValue v → lacks c (value_text v) ≡ true
value_lacks c Null out fits = out.no_null
value_lacks c (Int z) out fits = signed_lacks c z out fits
value_lacks c (Bytes bs) out fits = rw out.no_x (digits_lack c bs out.no_hex out.no_zero)

pub blank_is_none : IsNoValueByte 32
blank_is_none = record { no_digit = refl; no_hex = refl; no_zero = refl; no_null = refl; no_x = refl; no_minus = refl }

pub feed_is_none : IsNoValueByte 10
feed_is_none = record { no_digit = refl; no_hex = refl; no_zero = refl; no_null = refl; no_x = refl; no_minus = refl }

pub bar_is_none : IsNoValueByte 124
bar_is_none = record { no_digit = refl; no_hex = refl; no_zero = refl; no_null = refl; no_x = refl; no_minus = refl }

-- a bar is no value
pub no_bar : value_of (codes "|") ≡ None
no_bar = sym (none_is (value_of (codes "|")) (λ v e. let f = value_of-found (codes "|") v e in let l = ap (lacks 124) f.0 ∙ value_lacks 124 v bar_is_none f.1 in cc))
