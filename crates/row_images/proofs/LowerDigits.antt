-- Lower-case digits: an even number of them is the text of the bytes that it decodes to, and no text of bytes has another byte.
use Rattle.std.proofs.Common.{◌≡◌, ℕ, zero, suc, ◌+◌, ◌*◌, ◌/◌, ◌%◌, ◌<◌, Bool, true, false, eqb, is_some, ltb, not, cond, ◌&&◌, List, [], ◌∷◌, length, get_or, take, drop, set, ◌++◌, Option, Some, None, Ok, refl, sym, ap, ◌∙◌, arith, inl, inr}
use Rattle.std.specs.Prelude.{◌||◌}
use Rattle.std.proofs.Math.Seq.{drop-cons, take-length, drop-length}
use Rattle.std.proofs.lemmas.List.{append_assoc, append-nil, length-set, take_more_set}
use Rattle.std.specs.List.{list_all}
use Rattle.std.proofs.lemmas.Bool.{eqb-true, ltb-true, cases_lt, cases_eq, and_parts}
use Rattle.std.proofs.lemmas.Bool.Decides.{nat_tests}
use Rattle.hex.specs.Hex.{IsBytes, hex_digit_value, pair_value, decode_pairs, decode_of, encode_lower, encode_with, lower_digits}
use Rattle.hex.proofs.HexLemmas.{decode_of-even}
use Rattle.row_images.specs.Values.{is_lower_digit, digit_of, pairs_of, bytes_found, bytes_of, where_same}
use Rattle.row_images.proofs.ValueLaws.{where_same-again, bytes_found-same, none_is}

-- ---- one digit

-- the test of a byte: a lower-case digit has a value, which is written so
abbrev is_place : ℕ → Option ℕ → Bool
is_place b (Some v) = eqb (get_or lower_digits v 0) b && (ltb v 16 && eqb v (digit_of b))
is_place b None = false

abbrev is_back : ℕ → Bool
is_back b = not (is_lower_digit b) || is_place b (hex_digit_value b)

abbrev all_back : ℕ → Bool
all_back zero = true
all_back (suc n) = is_back n && all_back n

back_at : (n b : ℕ) → all_back n ≡ true → b < n → is_back b ≡ true
back_at zero b h lt = absurd (omega arith)
back_at (suc n) b h lt =
    let parts = and_parts (is_back n) (all_back n) h in
    elim (cases_lt b n) [
      | inl below ↦ back_at n b parts.1 below
      | inr top ↦
          let e : b ≡ n = omega arith in
          rw e parts.0
    ]

below_103 : (b : ℕ) → is_lower_digit b ≡ true → b < 103
below_103 b h = grind (arith, nat_tests)

record Place (b : ℕ) : Type 0 where
  value : ℕ
  is : hex_digit_value b ≡ Some value
  small : value < 16
  back : get_or lower_digits value 0 ≡ b
  same : value ≡ digit_of b

place_in : (b : ℕ) (o : Option ℕ) → hex_digit_value b ≡ o → is_place b o ≡ true → Place b
place_in b (Some v) e h =
    let parts = and_parts (eqb (get_or lower_digits v 0) b) (ltb v 16 && eqb v (digit_of b)) h in
    let more = and_parts (ltb v 16) (eqb v (digit_of b)) parts.1 in
    record { value = v; is = e; small = ltb-true v 16 more.0; back = eqb-true _ b parts.0; same = eqb-true v (digit_of b) more.1 }
place_in b None e h = absurd cc

place : (b : ℕ) → is_lower_digit b ≡ true → Place b
place b lower =
    let test = back_at 103 b refl (below_103 b lower) in
    place_in b (hex_digit_value b) refl (sym (ap (λ v. not v || is_place b (hex_digit_value b)) lower) ∙ test)

-- ---- digits

record Spelled (i : ℕ) (ds : List ℕ) : Type 0 where
  bytes : List ℕ
  decodes : decode_pairs i ds ≡ Ok bytes
  again : encode_lower bytes ≡ ds
  pairs : bytes ≡ pairs_of ds

pair_of : (h l i x y : ℕ) → hex_digit_value h ≡ Some x → hex_digit_value l ≡ Some y → pair_value h l i ≡ Ok (x * 16 + y)
pair_of h l i x y eh el = rw (eh, el) refl

spelled : (i : ℕ) (ds : List ℕ) → list_all is_lower_digit ds ≡ true → length ds % 2 ≡ 0 → Spelled i ds
unfolding decode_pairs encode_with
spelled i [] all even = record { bytes = []; decodes = refl; again = refl; pairs = refl }
spelled i (h ∷ []) all even = absurd (omega (arith, even))
spelled i (h ∷ l ∷ rest) all even =
    let first = and_parts (is_lower_digit h) (list_all is_lower_digit (l ∷ rest)) all in
    let second = and_parts (is_lower_digit l) (list_all is_lower_digit rest) first.1 in
    let a = place h first.0 in
    let b = place l second.0 in
    let r = spelled (i + 2) rest second.1 (omega (arith, even)) in
    let x = a.value in
    let y = b.value in
    let high : (x * 16 + y) / 16 ≡ x = omega (arith, b.small) in
    let low : (x * 16 + y) % 16 ≡ y = omega (arith, b.small) in
    let both : x * 16 + y ≡ digit_of h % 16 * 16 + digit_of l % 16 = omega (arith, a.small, b.small, a.same, b.same) in
    record {
      bytes = (x * 16 + y) ∷ r.bytes;
      decodes = rw (pair_of h l i x y a.is b.is, r.decodes) refl;
      again = λ k. (ap (λ n. get_or lower_digits n 0) high ∙ a.back) k ∷ (ap (λ n. get_or lower_digits n 0) low ∙ b.back) k ∷ r.again k;
      pairs = λ k. both k ∷ r.pairs k;
    }

-- an even number of lower-case digits parses as its pairs
lower_even : (ds : List ℕ) → Spelled 0 ds → decode_of ds ≡ decode_pairs 0 ds → bytes_of ds ≡ Some (pairs_of ds)
lower_even ds s e =
    ap (bytes_found ds) (e ∙ s.decodes)
    ∙ sym (ap (λ text. where_same encode_lower ds s.bytes) s.again) ∙ ap (λ text. where_same encode_lower text s.bytes) (sym s.again)
    ∙ where_same-again encode_lower s.bytes ∙ ap Some s.pairs

-- ---- two digits at a time

-- the test of a byte: the value of a lower-case digit, by its halves
abbrev is_by_halves : ℕ → Bool
is_by_halves b = not (is_lower_digit b) || eqb (b % 16 + b / 64 * 9) (digit_of b)

abbrev all_by_halves : ℕ → Bool
all_by_halves zero = true
all_by_halves (suc n) = is_by_halves n && all_by_halves n

by_halves_at : (n b : ℕ) → all_by_halves n ≡ true → b < n → is_by_halves b ≡ true
by_halves_at zero b h lt = absurd (omega arith)
by_halves_at (suc n) b h lt =
    let parts = and_parts (is_by_halves n) (all_by_halves n) h in
    elim (cases_lt b n) [
      | inl below ↦ by_halves_at n b parts.1 below
      | inr top ↦
          let e : b ≡ n = omega arith in
          rw e parts.0
    ]

pub value_by_halves : (b : ℕ) → is_lower_digit b ≡ true → b % 16 + b / 64 * 9 ≡ digit_of b
value_by_halves b lower =
    let test = by_halves_at 103 b refl (below_103 b lower) in
    eqb-true (b % 16 + b / 64 * 9) (digit_of b) (sym (ap (λ v. not v || eqb (b % 16 + b / 64 * 9) (digit_of b)) lower) ∙ test)

pub lower_there : (ds : List ℕ) (i : ℕ) → i < length ds → list_all is_lower_digit ds ≡ true → is_lower_digit (get_or ds i 0) ≡ true
lower_there [] i lt all = absurd (omega (arith, lt))
lower_there (d ∷ ds) zero lt all = (and_parts (is_lower_digit d) (list_all is_lower_digit ds) all).0
lower_there (d ∷ ds) (suc i) lt all = lower_there ds i (omega (arith, lt)) (and_parts (is_lower_digit d) (list_all is_lower_digit ds) all).1

drop_two : (ds : List ℕ) (n i : ℕ) → length ds ≡ 2 * n → i < n → drop (2 * i) ds ≡ get_or ds (2 * i) 0 ∷ get_or ds (2 * i + 1) 0 ∷ drop (2 * (i + 1)) ds
drop_two ds n i len lt =
    let one : suc (2 * i) ≡ 2 * i + 1 = omega arith in
    let two : suc (2 * i + 1) ≡ 2 * (i + 1) = omega arith in
    drop-cons ds (2 * i) 0 (omega (arith, len, lt))
    ∙ ap (λ k. get_or ds (2 * i) 0 ∷ drop k ds) one
    ∙ ap (λ t. get_or ds (2 * i) 0 ∷ t) (drop-cons ds (2 * i + 1) 0 (omega (arith, len, lt)) ∙ ap (λ k. get_or ds (2 * i + 1) 0 ∷ drop k ds) two)

pub two_more : (ds : List ℕ) (n i x y : ℕ) → length ds ≡ 2 * n → i < n → x ≡ digit_of (get_or ds (2 * i) 0) → y ≡ digit_of (get_or ds (2 * i + 1) 0)
    → (x % 16 * 16 + y % 16) ∷ pairs_of (drop (2 * (i + 1)) ds) ≡ pairs_of (drop (2 * i) ds)
two_more ds n i x y len lt ex ey =
    (λ k. (ex k % 16 * 16 + ey k % 16) ∷ pairs_of (drop (2 * (i + 1)) ds)) ∙ sym (ap pairs_of (drop_two ds n i len lt))

-- ---- other bytes

abbrev all_lower : ℕ → Bool
all_lower zero = true
all_lower (suc n) = is_lower_digit (get_or lower_digits n 0) && all_lower n

lower_at : (n k : ℕ) → all_lower n ≡ true → k < n → is_lower_digit (get_or lower_digits k 0) ≡ true
lower_at zero k h lt = absurd (omega arith)
lower_at (suc n) k h lt =
    let parts = and_parts (is_lower_digit (get_or lower_digits n 0)) (all_lower n) h in
    elim (cases_lt k n) [
      | inl below ↦ lower_at n k parts.1 below
      | inr top ↦
          let e : k ≡ n = omega arith in
          rw e parts.0
    ]

written_lower : (bs : List ℕ) → IsBytes bs → list_all is_lower_digit (encode_lower bs) ≡ true
unfolding encode_with
written_lower [] fits = refl
written_lower (b ∷ bs) fits =
    let byte : b < 256 = fits 0 in
    let high = lower_at 16 (b / 16) refl (omega arith) in
    let low = lower_at 16 (b % 16) refl (omega arith) in
    rw (high, low) (written_lower bs (λ k. fits (suc k)))

pub other_spells_none : (ds : List ℕ) → list_all is_lower_digit ds ≡ false → bytes_of ds ≡ None
other_spells_none ds other = sym (none_is (bytes_of ds) (λ bs e. let f = bytes_found-same ds bs e in let all = ap (list_all is_lower_digit) f.0 ∙ written_lower bs f.1 in cc))

-- ---- what digits parse as

not_odd : (n : ℕ) → (n % 2 ≡ 1 → ⊥) → n % 2 ≡ 0
not_odd n h = elim (cases_eq (n % 2) 1) [ inl odd ↦ absurd (h odd) | inr other ↦ omega (arith, other) ]

pub pairs_told : (ds new : List ℕ) (r : Bool) → (length ds % 2 ≡ 1 → ⊥) → r ≡ list_all is_lower_digit ds → new ≡ pairs_of ds → bytes_of ds ≡ cond r (Some new) None
pairs_told ds new true odd lower is =
    let even = not_odd (length ds) odd in
    lower_even ds (spelled 0 ds (sym lower) even) (decode_of-even ds even) ∙ ap Some (sym is)
pairs_told ds new false odd lower is = other_spells_none ds (sym lower)

-- ---- bytes as digits

pub encoded_next : (bs : List ℕ) (i : ℕ) → i < length bs → get_or lower_digits (get_or bs i 0 / 16) 0 ∷ get_or lower_digits (get_or bs i 0 % 16) 0 ∷ encode_lower (drop (i + 1) bs) ≡ encode_lower (drop i bs)
unfolding encode_with
encoded_next bs i lt =
    let one : i + 1 ≡ suc i = omega arith in
    ap (λ k. get_or lower_digits (get_or bs i 0 / 16) 0 ∷ get_or lower_digits (get_or bs i 0 % 16) 0 ∷ encode_with lower_digits (drop k bs)) one ∙ sym (ap (encode_with lower_digits) (drop-cons bs i 0 lt))

pub two_set : (room : List ℕ) (i h l : ℕ) → 2 * i + 1 < length room → take (2 * (i + 1)) (set (set room (2 * i) h) (2 * i + 1) l) ≡ take (2 * i) room ++ h ∷ l ∷ []
two_set room i h l lt =
    let two : 2 * (i + 1) ≡ 2 * i + 1 + 1 = omega arith in
    let long : 2 * i + 1 < length (set room (2 * i) h) = omega (arith, lt, length-set room (2 * i) h) in
    let some : 2 * i < length room = omega (arith, lt) in
    ap (λ k. take k (set (set room (2 * i) h) (2 * i + 1) l)) two
    ∙ take_more_set (set room (2 * i) h) (2 * i + 1) l long
    ∙ ap (λ t. t ++ l ∷ []) (take_more_set room (2 * i) h some)
    ∙ append_assoc (take (2 * i) room) (h ∷ []) (l ∷ [])

pub all_encoded : (bs room : List ℕ) (i : ℕ) → i ≡ length bs → length room ≡ 2 * length bs → take (2 * i) room ++ encode_lower (drop i bs) ≡ encode_lower bs → room ≡ encode_lower bs
unfolding encode_with
all_encoded bs room i e len told =
    let size : 2 * i ≡ length room = omega (arith, e, len) in
    let full : take (2 * i) room ≡ room = ap (λ k. take k room) size ∙ take-length room in
    let none : drop i bs ≡ [] = ap (λ k. drop k bs) e ∙ drop-length bs in
    sym (append-nil room) ∙ (λ k. sym full k ++ encode_with lower_digits (sym none k)) ∙ told

-- an even number of digits: they are those of bytes where each is a lower-case digit
pub lower_decides : (ds : List ℕ) (r : Bool) → length ds % 2 ≡ 0 → r ≡ list_all is_lower_digit ds → r ≡ is_some (bytes_of ds)
lower_decides ds true even lower = sym (ap is_some (lower_even ds (spelled 0 ds (sym lower) even) (decode_of-even ds even)))
lower_decides ds false even lower = sym (ap is_some (other_spells_none ds (sym lower)))
