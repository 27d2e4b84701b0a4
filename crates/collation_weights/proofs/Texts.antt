-- Bytes that are UTF-8.
use Rattle.std.proofs.Common.{◌≡◌, true, false, refl, sym, ap, ◌∙◌, subst, cond, inl, inr, List, ℕ, Option, Some, None}
use Rattle.std.specs.Prelude.{chars, encode_utf8_all}
use Rattle.std.specs.Str.{IsUtf8, is_utf8}
use Rattle.std.proofs.lemmas.Str.{IsUtf8-from_is_utf8, is_utf8-from_IsUtf8, encodes-chars}
use Rattle.std.proofs.lemmas.Bool.{false_from_ne_true, cases_Bool}
use Rattle.std.specs.Option.{option_map}
use Rattle.collations.specs.declared.collation.Collation.{Collation}
use Rattle.collation_weights.specs.declared.character_set.CharacterSet.{CharacterSet}
use Rattle.collations.specs.declared.collation.Collation.TheVariants.{Utf8mb4_0900Bin}
use Rattle.collation_weights.specs.declared.character_set.CharacterSet.TheVariants.{Utf8mb4}
use Rattle.collation_weights.specs.Characters.{characters}
use Rattle.collation_weights.specs.Weights.{character_set_of, weights}

pub is_text : (bytes : List ℕ) → IsUtf8 bytes → is_utf8 bytes ≡ true
is_text bytes it = is_utf8-from_IsUtf8 bytes it

pub is_no_text : (bytes : List ℕ) → (IsUtf8 bytes → ⊥) → is_utf8 bytes ≡ false
is_no_text bytes none = false_from_ne_true (is_utf8 bytes) (λ it. none (IsUtf8-from_is_utf8 bytes it))

pub bytes_of_text : (bytes : List ℕ) → IsUtf8 bytes → encode_utf8_all (chars bytes) ≡ bytes
bytes_of_text bytes it = encodes-chars bytes it

IsThere : Option (List ℕ) → Type 0
IsThere None = ⊥
IsThere (Some points) = points ≡ points

-- by utf8mb4_0900_bin a text weighs its bytes
pub binary_weights : (bytes points : List ℕ) → Some points ≡ characters Utf8mb4 bytes → Some bytes ≡ weights Utf8mb4_0900Bin bytes
unfolding characters weights IsThere
binary_weights bytes points same =
    elim (cases_Bool (is_utf8 bytes)) [
      | inl it ↦ sym (ap (λ b. option_map encode_utf8_all (cond b (Some (chars bytes)) None)) it ∙ ap Some (bytes_of_text bytes (IsUtf8-from_is_utf8 bytes it)))
      | inr none ↦ absurd (subst IsThere (same ∙ ap (λ b. cond b (Some (chars bytes)) None) none) refl)
    ]

pub binary_case : (collation : Collation) (set : CharacterSet) (bytes items points : List ℕ)
    → collation ≡ Utf8mb4_0900Bin → set ≡ character_set_of collation → Some points ≡ characters set bytes → items ≡ bytes
    → Some items ≡ weights collation bytes
binary_case collation set bytes items points is same found copied =
    ap Some copied
    ∙ binary_weights bytes points (found ∙ ap (λ s. characters s bytes) same ∙ ap (λ c. characters (character_set_of c) bytes) is)
    ∙ ap (λ c. weights c bytes) (sym is)
