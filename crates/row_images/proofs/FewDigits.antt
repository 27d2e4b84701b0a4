-- A number of few digits is small.
use Rattle.std.proofs.Common.{◌≡◌, ℕ, ◌^◌, ◌<◌, ◌≤◌, Bool, true, false, List, length, is_some, refl, sym, ap, arith}
use Rattle.std.specs.Str.Parse.{digits_value, starts_with_minus}
use Rattle.std.proofs.lemmas.Str.Parse.{digits_value_short}
use Rattle.gtid_text.proofs.Tokens.{own}
use Rattle.row_images.specs.Words.{is_count}
use Rattle.row_images.specs.Values.{int_of}
use Rattle.row_images.proofs.Numerals.{digits_in, count_small, count_none}
use Rattle.row_images.proofs.ValueLaws.{above_is, above_less}

on : (word : List ℕ) (b : Bool) → is_count word ≡ b → starts_with_minus word ≡ false → length word ≤ 18 → b ≡ is_some (int_of word)
on word true e plain few =
    let lt : digits_value 10 word < 10 ^ 18 = digits_value_short own word 18 (digits_in word e).1 few in
    let small : digits_value 10 word < 2 ^ 63 = omega (arith, lt) in
    ap is_some (above_is word (digits_value 10 word) (sym (count_small word e (omega (arith, small)))) small)
on word false e plain few = ap is_some (above_less word plain (count_none word e))

pub few_digits : (word : List ℕ) → starts_with_minus word ≡ false → length word ≤ 18 → is_count word ≡ is_some (int_of word)
few_digits word plain few = on word (is_count word) refl plain few
