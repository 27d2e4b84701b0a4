-- A name is ASCII, and so it is text.
use Rattle.std.proofs.Common.{◌≡◌, ℕ, Bool, true, false, cond, eqb, List, [], ◌∷◌, None, Some, refl, sym, ap, arith}
use Rattle.std.specs.Prelude.{◌&&◌, ◌||◌, ◌==◌, nat_le, ◌+◌, ◌*◌, length, not}
use Rattle.std.specs.List.{list_all, count_by, slice_split, onto_first}
use Rattle.std.specs.Str.{IsUtf8}
use Rattle.std.proofs.lemmas.Bool.{false_from_ne_true, and_parts, and_from}
use Rattle.std.proofs.lemmas.Bool.Decides.{nat_tests}
use Rattle.journal_words.specs.Gtids.{is_ascii_byte}
use Rattle.journal_words.proofs.AsciiLemmas.{ascii_utf8}
use Rattle.gtid_set.proofs.SpanLemmas.{all_weaker}
use Rattle.row_images.proofs.Counts.{lacks}
use Rattle.rows.specs.declared.limits.Limits.{Limits}
use Rattle.rows.specs.declared.limits.Limits.TheVariants.{Narrow, Wide}
use Rattle.rows.proofs.ShortNames.{short_is_name}
use Rattle.rows.specs.Names.{is_short_name, is_short_name_byte, begins_with_digit, is_plain, is_low_digit, is_escape, are_characters, is_name_part, is_name}
use Rattle.txn_journal.specs.Versions.{is_named}
use Rattle.txn_journal.specs.Words.{name_of}

-- ---- the bytes of a name

-- of characters, escapes and dots
abbrev is_name_byte : ℕ → Bool
is_name_byte b = b == 46 || (is_plain b || b == 37)

abbrev is_part_byte : ℕ → Bool
is_part_byte b = is_plain b || b == 37

low_is_plain : (b : ℕ) → is_low_digit b ≡ true → is_part_byte b ≡ true
low_is_plain b e = grind (arith, nat_tests, e)

plain_is_part : (b : ℕ) → is_plain b ≡ true → is_part_byte b ≡ true
plain_is_part b e = grind (arith, nat_tests, e)

percent_is_part : (b : ℕ) → (b == 37) ≡ true → is_part_byte b ≡ true
percent_is_part b e = grind (arith, nat_tests, e)

chars_step : (t : Bool) (c a b : ℕ) (cs : List ℕ) → (c == 37) ≡ t → (are_characters cs ≡ true → list_all is_part_byte cs ≡ true) → (are_characters (a ∷ b ∷ cs) ≡ true → list_all is_part_byte (a ∷ b ∷ cs) ≡ true)
    → cond t (is_escape a b && are_characters cs) (is_plain c && are_characters (a ∷ b ∷ cs)) ≡ true → list_all is_part_byte (c ∷ a ∷ b ∷ cs) ≡ true
chars_step true c a b cs is after rest e =
    let p = and_parts (is_escape a b) (are_characters cs) e in
    let q = and_parts (is_low_digit a && is_low_digit b) _ p.0 in
    let r = and_parts (is_low_digit a) (is_low_digit b) q.0 in
    and_from (is_part_byte c) (list_all is_part_byte (a ∷ b ∷ cs)) (percent_is_part c is)
    (and_from (is_part_byte a) (list_all is_part_byte (b ∷ cs)) (low_is_plain a r.0)
    (and_from (is_part_byte b) (list_all is_part_byte cs) (low_is_plain b r.1) (after p.1)))
chars_step false c a b cs is after rest e =
    let p = and_parts (is_plain c) (are_characters (a ∷ b ∷ cs)) e in
    and_from (is_part_byte c) (list_all is_part_byte (a ∷ b ∷ cs)) (plain_is_part c p.0) (rest p.1)

part_bytes : (part : List ℕ) → are_characters part ≡ true → list_all is_part_byte part ≡ true
part_bytes [] e = refl
part_bytes (c ∷ []) e = and_from (is_part_byte c) true (plain_is_part c e) refl
part_bytes (c ∷ a ∷ []) e =
    let p = and_parts (is_plain c) (is_plain a) e in
    and_from (is_part_byte c) (is_part_byte a && true) (plain_is_part c p.0) (and_from (is_part_byte a) true (plain_is_part a p.1) refl)
part_bytes (c ∷ a ∷ b ∷ cs) e = chars_step (c == 37) c a b cs refl (part_bytes cs) (part_bytes (a ∷ b ∷ cs)) e

parts_bytes : (parts : List (List ℕ)) → list_all is_name_part parts ≡ true → list_all (list_all is_part_byte) parts ≡ true
parts_bytes [] e = refl
parts_bytes (part ∷ parts) e =
    let p = and_parts (is_name_part part) (list_all is_name_part parts) e in
    let q = and_parts (nat_le 1 (length part)) (are_characters part) p.0 in
    and_from (list_all is_part_byte part) (list_all (list_all is_part_byte) parts) (part_bytes part q.1) (parts_bytes parts p.1)

onto_bytes : (c : ℕ) (parts : List (List ℕ)) → list_all (list_all is_part_byte) (onto_first c parts) ≡ true → (is_part_byte c ≡ true) × (list_all (list_all is_part_byte) parts ≡ true)
onto_bytes c [] e = ((and_parts (is_part_byte c) true (and_parts (is_part_byte c && true) true e).0).0, refl)
onto_bytes c (part ∷ parts) e =
    let p = and_parts (is_part_byte c && list_all is_part_byte part) (list_all (list_all is_part_byte) parts) e in
    let q = and_parts (is_part_byte c) (list_all is_part_byte part) p.0 in
    (q.0, and_from (list_all is_part_byte part) (list_all (list_all is_part_byte) parts) q.1 p.1)

dot_is_name : (b : ℕ) → (b == 46) ≡ true → is_name_byte b ≡ true
dot_is_name b e = grind (arith, nat_tests, e)

part_is_name : (b : ℕ) → is_part_byte b ≡ true → is_name_byte b ≡ true
part_is_name b e = grind (arith, nat_tests, e)

split_step : (t : Bool) (c : ℕ) (cs : List ℕ) (parts : List (List ℕ)) → (c == 46) ≡ t → (list_all (list_all is_part_byte) parts ≡ true → list_all is_name_byte cs ≡ true)
    → list_all (list_all is_part_byte) (cond t ([] ∷ parts) (onto_first c parts)) ≡ true → list_all is_name_byte (c ∷ cs) ≡ true
split_step true c cs parts is rest e = and_from (is_name_byte c) (list_all is_name_byte cs) (dot_is_name c is) (rest e)
split_step false c cs parts is rest e =
    let p = onto_bytes c parts e in
    and_from (is_name_byte c) (list_all is_name_byte cs) (part_is_name c p.0) (rest p.1)

split_bytes : (text : List ℕ) → list_all (list_all is_part_byte) (slice_split (λ c. c == 46) text) ≡ true → list_all is_name_byte text ≡ true
split_bytes [] e = refl
split_bytes (c ∷ cs) e = split_step (c == 46) c cs (slice_split (λ c. c == 46) cs) refl (split_bytes cs) e

short_is_name_byte : (b : ℕ) → is_short_name_byte b ≡ true → is_name_byte b ≡ true
short_is_name_byte b e = grind (arith, nat_tests, e)

-- a name of the narrow limits is one of the widest
pub wide_name : (w : List ℕ) → is_named Narrow w ≡ true → is_named Wide w ≡ true
wide_name w e = short_is_name w e

name_bytes : (limits : Limits) (w : List ℕ) → is_named limits w ≡ true → list_all is_name_byte w ≡ true
name_bytes Narrow w e =
    let p = and_parts (nat_le 1 (length w) && nat_le (length w) 64 && list_all is_short_name_byte w) (not (begins_with_digit w)) e in
    all_weaker is_short_name_byte is_name_byte w short_is_name_byte (and_parts (nat_le 1 (length w) && nat_le (length w) 64) (list_all is_short_name_byte w) p.0).1
name_bytes Wide w e =
    let p = and_parts (list_all is_name_part (slice_split (λ c. c == 46) w)) (nat_le (length w) (512 + 2 * count_by (λ c. c == 37) w)) e in
    split_bytes w (parts_bytes (slice_split (λ c. c == 46) w) p.0)

-- ---- names as words

name_ascii : (b : ℕ) → is_name_byte b ≡ true → is_ascii_byte b ≡ true
name_ascii b e = grind (arith, nat_tests)

pub name_text : (limits : Limits) (w : List ℕ) → is_named limits w ≡ true → IsUtf8 w
name_text limits w e = ascii_utf8 w (all_weaker is_name_byte is_ascii_byte w name_ascii (name_bytes limits w e))

pub not_text : (limits : Limits) (word : List ℕ) → (IsUtf8 word → ⊥) → None ≡ name_of limits word
not_text limits word h = ap (λ (b : Bool). cond b (Some word) None) (sym (false_from_ne_true (is_named limits word) (λ e. h (name_text limits word e))))

-- no blank and no line feed is in a name
no_blank_byte : (b : ℕ) → is_name_byte b ≡ true → not (eqb b 32) ≡ true
no_blank_byte b e = grind (arith, nat_tests)

no_feed_byte : (b : ℕ) → is_name_byte b ≡ true → not (eqb b 10) ≡ true
no_feed_byte b e = grind (arith, nat_tests)

pub name_no_blank : (limits : Limits) (w : List ℕ) → is_named limits w ≡ true → lacks 32 w ≡ true
name_no_blank limits w e = all_weaker is_name_byte (λ b. not (eqb b 32)) w no_blank_byte (name_bytes limits w e)

pub name_no_feed : (limits : Limits) (w : List ℕ) → is_named limits w ≡ true → lacks 10 w ≡ true
name_no_feed limits w e = all_weaker is_name_byte (λ b. not (eqb b 10)) w no_feed_byte (name_bytes limits w e)
