-- ASCII bytes are text.
use Rattle.std.proofs.Common.{◌≡◌, ℕ, zero, suc, true, List, [], ◌∷◌, arith}
use Rattle.std.specs.List.{list_all}
use Rattle.std.specs.Str.{IsAscii, IsUtf8}
use Rattle.std.proofs.lemmas.Str.{IsUtf8-from_ascii}
use Rattle.std.proofs.lemmas.Bool.{ltb-true, and_parts}
use Rattle.journal_words.specs.Gtids.{is_ascii_byte}

pub all_ascii : (w : List ℕ) → list_all is_ascii_byte w ≡ true → IsAscii w
all_ascii [] e i = omega arith
all_ascii (b ∷ bs) e zero = ltb-true b 128 (and_parts (is_ascii_byte b) (list_all is_ascii_byte bs) e).0
all_ascii (b ∷ bs) e (suc i) = all_ascii bs (and_parts (is_ascii_byte b) (list_all is_ascii_byte bs) e).1 i

pub ascii_utf8 : (w : List ℕ) → list_all is_ascii_byte w ≡ true → IsUtf8 w
ascii_utf8 w e = IsUtf8-from_ascii w (all_ascii w e)
