-- What is written is read again.
use Rattle.std.proofs.Common.{◌≡◌, ℕ, zero, suc, ◌^◌, ◌<◌, ◌≤◌, Bool, true, false, cond, eqb, List, [], ◌∷◌, ◌++◌, length, All, Some, None, refl, sym, ap, ◌∙◌, arith, eq-eqb, inl}
use Rattle.std.specs.Prelude.{◌&&◌, option_map, decimal}
use Rattle.std.specs.List.{list_all, AllByRecursion}
use Rattle.std.specs.Int.{w128, from_be_bytes, to_be_bytes, bytes_high_first}
use Rattle.std.proofs.lemmas.Fmt.{digits_value-decimal}
use Rattle.std.proofs.lemmas.Bool.{le-leb, cond-true}
use Rattle.std.proofs.lemmas.List.Elements.{All-from_recursion}
use Rattle.std.proofs.lemmas.Bool.Decides.{nat_tests}
use Rattle.uuid.specs.Text.{by_index, hyphenated_text, lower, hex_digit, nibble, digit_place, is_hyphen_place, hyphen, parsed_hyphenated}
use Rattle.uuid.proofs.TextLemmas.{by_index_length, nibble_small}
use Rattle.uuid.proofs.RoundTrips.{parses_hyphenated_text}
use Rattle.uuid.proofs.OrderLemmas.{from_be_bytes-to_be_bytes_16}
use Rattle.gtid_text.specs.Scan.{is_uuid_byte, source_of, number_of}
use Rattle.gtid_text.specs.Canonical.{source_text}
use Rattle.gtid_text.specs.declared.SourceId.{SourceId}
use Rattle.gtid_text.proofs.Tokens.{own}

list_all-more : (p : ℕ → Bool) (xs : List ℕ) (x : ℕ) → list_all p xs ≡ true → p x ≡ true → list_all p (xs ++ x ∷ []) ≡ true
list_all-more p [] x e f = rw f refl
list_all-more p (y ∷ ys) x e f = elim (p y) as (λ b. (b && list_all p ys) ≡ true → (b && list_all p (ys ++ x ∷ [])) ≡ true) [
  | true ↦ λ h. list_all-more p ys x h f
  | false ↦ λ h. absurd cc
] e

by_index_all : (p : ℕ → Bool) (n : ℕ) (f : ℕ → ℕ) → ((k : ℕ) → p (f k) ≡ true) → list_all p (by_index n f) ≡ true
unfolding by_index
by_index_all p zero f h = refl
by_index_all p (suc n) f h = list_all-more p (by_index n f) (f n) (by_index_all p n f h) (h n)

hex_digit_passes : (d : ℕ) → d < 16 → is_uuid_byte (hex_digit lower d) ≡ true
hex_digit_passes d lt = grind (arith, nat_tests)

uuid_byte_at : (xs : List ℕ) (k : ℕ) → is_uuid_byte (cond (is_hyphen_place k) hyphen (hex_digit lower (nibble xs (digit_place k)))) ≡ true
uuid_byte_at xs k = elim (is_hyphen_place k) as (λ b. is_uuid_byte (cond b hyphen (hex_digit lower (nibble xs (digit_place k)))) ≡ true) [
  | true ↦ refl
  | false ↦ hex_digit_passes (nibble xs (digit_place k)) (nibble_small xs (digit_place k))
]

pub source_bytes : (id : SourceId) → list_all is_uuid_byte (source_text id) ≡ true
unfolding source_text
source_bytes id = by_index_all is_uuid_byte 36 _ (uuid_byte_at (to_be_bytes w128 id))

high_small : (k n : ℕ) → AllByRecursion (λ b. b < 256) (bytes_high_first k n)
high_small zero n = tt
high_small (suc zero) n = (omega arith, tt)
high_small (suc (suc k)) n = (omega arith, high_small (suc k) n)

bytes_small : (n : ℕ) → All (λ b. b < 256) (to_be_bytes w128 n)
bytes_small n = All-from_recursion (λ b. b < 256) (bytes_high_first 16 n) (high_small 16 n)

pub source_again : (id : SourceId) → id < 2 ^ 128 → source_of (source_text id) ≡ Some id
unfolding source_text
source_again id fits =
    let text = hyphenated_text lower (to_be_bytes w128 id) in
    let f : List ℕ → SourceId = λ bytes. from_be_bytes w128 bytes in
    let long : length text ≡ 36 = by_index_length 36 _ in
    let back : Some (to_be_bytes w128 id) ≡ parsed_hyphenated text = parses_hyphenated_text lower (to_be_bytes w128 id) (inl refl) refl (bytes_small id) in
    cond-true (eqb (length text) 36) (option_map f (parsed_hyphenated text)) None (eq-eqb (length text) 36 long)
    ∙ ap (option_map f) (sym back)
    ∙ ap (λ (n : ℕ). Some (n)) (from_be_bytes-to_be_bytes_16 id fits)

pub number_again : (n : ℕ) → 1 ≤ n → n ≤ 9223372036854775807 → number_of (decimal n) ≡ Some n
number_again n low high = rw (digits_value-decimal own n (omega arith), le-leb _ _ low, le-leb _ _ high) refl
