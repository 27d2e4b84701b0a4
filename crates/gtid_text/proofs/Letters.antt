-- The case of letters makes no difference to a UUID.
use Rattle.std.proofs.Common.{◌≡◌, ℕ, zero, suc, ◌+◌, ◌*◌, ◌<◌, ◌≤◌, Bool, cond, eqb, List, [], ◌∷◌, ◌++◌, length, map, Option, None, refl, sym, ap, subst, ◌∙◌, arith, inl, inr}
use Rattle.std.specs.Prelude.{option_map, slice_index}
use Rattle.std.specs.Char.{to_ascii_lowercase}
use Rattle.std.specs.Str.{str_to_ascii_lowercase}
use Rattle.std.specs.List.{list_all}
use Rattle.std.specs.Int.{w128, from_be_bytes}
use Rattle.std.proofs.Math.ListN.{get_or-map}
use Rattle.std.proofs.lemmas.List.{length-map, map-append}
use Rattle.std.proofs.lemmas.Str.Ascii.{lowercase_is}
use Rattle.std.proofs.lemmas.Bool.{cases_lt}
use Rattle.std.proofs.lemmas.Bool.Decides.{nat_tests}
use Rattle.uuid.specs.Text.{by_index, is_hex_digit, value_of, byte_of_digits, hyphen_place, digits_of, has_hyphens, parsed_simple, parsed_hyphenated}
use Rattle.gtid_text.specs.Scan.{is_uuid_byte, source_of}
use Rattle.gtid_text.specs.Written.{SameButCase}
use Rattle.gtid_text.specs.declared.SourceId.{SourceId}

-- what holds of a byte, and of each capital's small letter, holds of the byte in lower case
letter_cases : (P : ℕ → Type 0) (c : ℕ) → P c → (65 ≤ c → c < 91 → P (c + 32)) → P (to_ascii_lowercase c)
letter_cases P c same small =
    elim (cases_lt c 65) [
      | inl low ↦ subst P (sym ((lowercase_is c).1 low)) same
      | inr high ↦ elim (cases_lt 90 c) [
        | inl above ↦ subst P (sym ((lowercase_is c).2 above)) same
        | inr within ↦ subst P (sym ((lowercase_is c).0 (high, within))) (small high (omega arith))
      ]
    ]

hex_lower : (c : ℕ) → is_hex_digit (to_ascii_lowercase c) ≡ is_hex_digit c
hex_lower c = letter_cases (λ d. is_hex_digit d ≡ is_hex_digit c) c refl (λ low high. grind (arith, nat_tests))

value_lower : (c : ℕ) → value_of (to_ascii_lowercase c) ≡ value_of c
value_lower c = letter_cases (λ d. value_of d ≡ value_of c) c refl (λ low high. grind (arith, nat_tests))

hyphen_lower : (c : ℕ) → eqb (to_ascii_lowercase c) 45 ≡ eqb c 45
hyphen_lower c = letter_cases (λ d. eqb d 45 ≡ eqb c 45) c refl (λ low high. grind (arith, nat_tests))

uuid_byte_lower : (c : ℕ) → is_uuid_byte (to_ascii_lowercase c) ≡ is_uuid_byte c
uuid_byte_lower c = letter_cases (λ d. is_uuid_byte d ≡ is_uuid_byte c) c refl (λ low high. grind (arith, nat_tests))

-- a byte below the letters is itself in either case
pub low_lower : (c d : ℕ) → d < 65 → to_ascii_lowercase c ≡ to_ascii_lowercase d → c ≡ d
low_lower c d low e = letter_cases (λ x. x ≡ to_ascii_lowercase d → c ≡ d) c (λ h. h ∙ (lowercase_is d).1 low) (λ a b h. let k = (lowercase_is d).1 low in absurd (omega arith)) e

list_all_lower : (p : ℕ → Bool) (xs : List ℕ) → ((c : ℕ) → p (to_ascii_lowercase c) ≡ p c) → list_all p (str_to_ascii_lowercase xs) ≡ list_all p xs
list_all_lower p [] same = refl
list_all_lower p (x ∷ xs) same = rw (same x, list_all_lower p xs same) refl

-- what is at a place
at_lower : (xs : List ℕ) (k : ℕ) → slice_index (str_to_ascii_lowercase xs) k ≡ to_ascii_lowercase (slice_index xs k)
at_lower xs k = get_or-map to_ascii_lowercase xs k 0

by_index_map : (h : ℕ → ℕ) (n : ℕ) (f g : ℕ → ℕ) → ((k : ℕ) → g k ≡ h (f k)) → by_index n g ≡ map h (by_index n f)
unfolding by_index
by_index_map h zero f g e = refl
by_index_map h (suc n) f g e =
    ap (λ (xs : List ℕ). xs ++ g n ∷ []) (by_index_map h n f g e)
    ∙ ap (λ (x : ℕ). map h (by_index n f) ++ x ∷ []) (e n)
    ∙ sym (map-append h (by_index n f) (f n ∷ []))

by_index_same : (n : ℕ) (f g : ℕ → ℕ) → ((k : ℕ) → f k ≡ g k) → by_index n f ≡ by_index n g
unfolding by_index
by_index_same zero f g e = refl
by_index_same (suc n) f g e = ap (λ (xs : List ℕ). xs ++ f n ∷ []) (by_index_same n f g e) ∙ ap (λ (x : ℕ). by_index n g ++ x ∷ []) (e n)

digits_lower : (xs : List ℕ) → digits_of (str_to_ascii_lowercase xs) ≡ str_to_ascii_lowercase (digits_of xs)
digits_lower xs = by_index_map to_ascii_lowercase 32 (λ i. slice_index xs (hyphen_place i)) (λ i. slice_index (str_to_ascii_lowercase xs) (hyphen_place i)) (λ k. at_lower xs (hyphen_place k))

hyphens_lower : (xs : List ℕ) → has_hyphens (str_to_ascii_lowercase xs) ≡ has_hyphens xs
hyphens_lower xs = rw (at_lower xs 8, at_lower xs 13, at_lower xs 18, at_lower xs 23, hyphen_lower (slice_index xs 8), hyphen_lower (slice_index xs 13), hyphen_lower (slice_index xs 18), hyphen_lower (slice_index xs 23)) refl

digit_lower : (xs : List ℕ) (k : ℕ) → value_of (slice_index (str_to_ascii_lowercase xs) k) ≡ value_of (slice_index xs k)
digit_lower xs k = ap value_of (at_lower xs k) ∙ value_lower (slice_index xs k)

bytes_lower : (xs : List ℕ) (j : ℕ) → byte_of_digits (str_to_ascii_lowercase xs) j ≡ byte_of_digits xs j
bytes_lower xs j = ap (λ (a : ℕ). a * 16 + value_of (slice_index (str_to_ascii_lowercase xs) (2 * j + 1))) (digit_lower xs (2 * j)) ∙ ap (λ (b : ℕ). value_of (slice_index xs (2 * j)) * 16 + b) (digit_lower xs (2 * j + 1))

simple_lower : (xs : List ℕ) → parsed_simple (str_to_ascii_lowercase xs) ≡ parsed_simple xs
simple_lower xs =
    let long : length (str_to_ascii_lowercase xs) ≡ length xs = length-map xs to_ascii_lowercase in
    rw (long, list_all_lower is_hex_digit xs hex_lower, by_index_same 16 (byte_of_digits (str_to_ascii_lowercase xs)) (byte_of_digits xs) (bytes_lower xs)) refl

hyphenated_lower : (xs : List ℕ) → parsed_hyphenated (str_to_ascii_lowercase xs) ≡ parsed_hyphenated xs
hyphenated_lower xs =
    let long : length (str_to_ascii_lowercase xs) ≡ length xs = length-map xs to_ascii_lowercase in
    rw (long, hyphens_lower xs, digits_lower xs, simple_lower (digits_of xs)) refl

source_lower : (xs : List ℕ) → source_of (str_to_ascii_lowercase xs) ≡ source_of xs
source_lower xs =
    let f : List ℕ → SourceId = λ bytes. from_be_bytes w128 bytes in
    let lower = str_to_ascii_lowercase xs in
    ap (λ (n : ℕ). cond (eqb n 36) (option_map f (parsed_hyphenated lower)) None) (length-map xs to_ascii_lowercase)
    ∙ ap (λ (o : Option (List ℕ)). cond (eqb (length xs) 36) (option_map f o) None) (hyphenated_lower xs)

-- the same UUID in another case names the same source
pub source_same : (a b : List ℕ) → SameButCase a b → source_of a ≡ source_of b
source_same a b e = sym (source_lower a) ∙ ap source_of e ∙ source_lower b

pub uuid_bytes_same : (a b : List ℕ) → SameButCase a b → list_all is_uuid_byte a ≡ list_all is_uuid_byte b
uuid_bytes_same a b e = sym (list_all_lower is_uuid_byte a uuid_byte_lower) ∙ ap (list_all is_uuid_byte) e ∙ list_all_lower is_uuid_byte b uuid_byte_lower
