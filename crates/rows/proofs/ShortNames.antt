-- A short name is a name.
use Rattle.std.proofs.Common.{◌≡◌, ℕ, ◌+◌, ◌*◌, Bool, true, false, not, leb, List, [], ◌∷◌, length, refl, arith}
use Rattle.std.specs.Prelude.{◌&&◌, ◌==◌, nat_le}
use Rattle.std.specs.List.{list_all, count_by, slice_split}
use Rattle.std.proofs.lemmas.Bool.{and_parts, and_from}
use Rattle.std.proofs.lemmas.Bool.Decides.{nat_tests}
use Rattle.rows.specs.Names.{is_short_name_byte, begins_with_digit, has_short_length, is_short_name, is_plain, are_characters, is_name_part, is_name}

plain_of : (b : ℕ) → is_short_name_byte b ≡ true → is_plain b ≡ true
plain_of b e = grind (arith, nat_tests, e)

no_dot : (b : ℕ) → is_short_name_byte b ≡ true → (b == 46) ≡ false
no_dot b e = grind (arith, nat_tests, e)

no_percent : (b : ℕ) → is_short_name_byte b ≡ true → (b == 37) ≡ false
no_percent b e = grind (arith, nat_tests, e)

are_plain : (text : List ℕ) → list_all is_short_name_byte text ≡ true → are_characters text ≡ true
are_plain [] e = refl
are_plain (c ∷ []) e = plain_of c (and_parts (is_short_name_byte c) true e).0
are_plain (c ∷ a ∷ []) e =
    let p = and_parts (is_short_name_byte c) (is_short_name_byte a && true) e in
    let q = and_parts (is_short_name_byte a) true p.1 in
    and_from (is_plain c) (is_plain a) (plain_of c p.0) (plain_of a q.0)
are_plain (c ∷ a ∷ b ∷ cs) e =
    let p = and_parts (is_short_name_byte c) (list_all is_short_name_byte (a ∷ b ∷ cs)) e in
    rw (no_percent c p.0) (and_from (is_plain c) (are_characters (a ∷ b ∷ cs)) (plain_of c p.0) (are_plain (a ∷ b ∷ cs) p.1))

one_part : (text : List ℕ) → list_all is_short_name_byte text ≡ true → slice_split (λ c. c == 46) text ≡ text ∷ []
one_part [] e = refl
one_part (c ∷ cs) e =
    let p = and_parts (is_short_name_byte c) (list_all is_short_name_byte cs) e in
    rw (no_dot c p.0, one_part cs p.1) refl

few : (n escapes : ℕ) → nat_le n 64 ≡ true → nat_le n (512 + 2 * escapes) ≡ true
few n escapes e = grind (arith, nat_tests, e)

pub short_is_name : (text : List ℕ) → is_short_name text ≡ true → is_name text ≡ true
short_is_name text e =
    let p = and_parts (has_short_length text && list_all is_short_name_byte text) (not (begins_with_digit text)) e in
    let q = and_parts (has_short_length text) (list_all is_short_name_byte text) p.0 in
    let n = and_parts (nat_le 1 (length text)) (nat_le (length text) 64) q.0 in
    rw (one_part text q.1, n.0, are_plain text q.1) (few (length text) (count_by (λ c. c == 37) text) n.1)
