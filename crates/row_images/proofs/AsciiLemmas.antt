-- The text of an image is ASCII.
use Rattle.std.proofs.Common.{◌≡◌, Bool, ℕ, zero, suc, true, List, [], ◌∷◌, ltb, refl, arith}
use Rattle.std.specs.List.{list_all}
use Rattle.std.specs.Str.{IsAscii}
use Rattle.std.proofs.lemmas.Bool.{ltb-true, and_parts}
use Rattle.hex.specs.Hex.{encode_lower, lower_digits}
use Rattle.hex.proofs.HexLemmas.{IsAscii-encode_with}

abbrev pub is_ascii_byte : ℕ → Bool
is_ascii_byte b = ltb b 128

pub ascii_word : (w : List ℕ) → list_all is_ascii_byte w ≡ true → IsAscii w
ascii_word [] e i = omega arith
ascii_word (b ∷ bs) e zero = ltb-true b 128 (and_parts (is_ascii_byte b) (list_all is_ascii_byte bs) e).0
ascii_word (b ∷ bs) e (suc i) = ascii_word bs (and_parts (is_ascii_byte b) (list_all is_ascii_byte bs) e).1 i

-- two digits for each byte are
pub ascii_digits : (bytes : List ℕ) → IsAscii (encode_lower bytes)
ascii_digits bytes = IsAscii-encode_with lower_digits bytes (ascii_word lower_digits refl)
