-- The name of a table is ASCII, and so it is text.
use Rattle.std.proofs.Common.{◌≡◌, ℕ, zero, suc, ◌<◌, ◌/◌, ◌%◌, Bool, true, false, cond, List, [], ◌∷◌, Some, None, refl, slice_index_or, arith}
use Rattle.std.specs.Str.{IsAscii, IsUtf8}
use Rattle.std.proofs.lemmas.Bool.Decides.{nat_tests}
use Rattle.std.proofs.lemmas.Str.{IsUtf8-from_ascii, IsAscii-append}
use Rattle.rows.specs.Names.{is_plain, is_name}
use Rattle.log_transactions.specs.Tables.{hex_digit, escaped_byte, escaped, joined_name, table_name}

plain_ascii : (b : ℕ) → is_plain b ≡ true → b < 128
plain_ascii b e = grind (arith, nat_tests, e)

digit_ascii : (d : ℕ) → d < 16 → hex_digit d < 128
digit_ascii d h = grind (arith, nat_tests)

-- ---- escapes

byte_ascii : (p : Bool) (b : ℕ) → b < 256 → (p ≡ true → b < 128) → IsAscii (cond p (b ∷ []) (37 ∷ hex_digit (b / 16) ∷ hex_digit (b % 16) ∷ []))
byte_ascii true b h plain zero = plain refl
byte_ascii true b h plain (suc i) = omega arith
byte_ascii false b h plain zero = omega arith
byte_ascii false b h plain (suc zero) = digit_ascii (b / 16) (omega arith)
byte_ascii false b h plain (suc (suc zero)) = digit_ascii (b % 16) (omega arith)
byte_ascii false b h plain (suc (suc (suc i))) = omega arith

part_ascii : (bs : List ℕ) → ((i : ℕ) → slice_index_or bs i 0 < 256) → IsAscii (escaped bs)
part_ascii [] h = λ i. omega arith
part_ascii (b ∷ bs) h = IsAscii-append (escaped_byte b) (escaped bs) (byte_ascii (is_plain b) b (h 0) (plain_ascii b)) (part_ascii bs (λ i. h (suc i)))

dot_ascii : (bs : List ℕ) → IsAscii bs → IsAscii (46 ∷ bs)
dot_ascii bs h zero = omega arith
dot_ascii bs h (suc i) = h i

-- ---- names

pub name_text : (database table : List ℕ) → ((i : ℕ) → slice_index_or database i 0 < 256) → ((i : ℕ) → slice_index_or table i 0 < 256) → IsUtf8 (joined_name database table)
name_text database table small tiny =
    IsUtf8-from_ascii (joined_name database table)
    (IsAscii-append (escaped database) (46 ∷ escaped table) (part_ascii database small) (dot_ascii (escaped table) (part_ascii table tiny)))

named : (b : Bool) (text name : List ℕ) → Some name ≡ cond b (Some text) None → name ≡ text
named true text name e = cc
named false text name e = absurd cc

-- the name that a table has
pub named_table : (database table name : List ℕ) → Some name ≡ table_name database table → name ≡ joined_name database table
named_table database table name e = named (is_name (joined_name database table)) (joined_name database table) name e
