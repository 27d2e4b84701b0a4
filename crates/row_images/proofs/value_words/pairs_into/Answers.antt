use Rattle.std.proofs.Common.{rules, ◌≡◌, ◌+◌, ◌*◌, ◌%◌, ◌<◌, ◌++◌, ◌∷◌, [], true, List, ℕ, length, take, drop, get_or, ap, ◌∙◌, append_assoc, arith}
use Rattle.std.proofs.lemmas.List.{take_more_set}
use Rattle.row_images.specs.Values.{is_lower_digit, pairs_of}
use Rattle.row_images.proofs.LowerDigits.{two_more, lower_there}
use Rattle.row_images.proofs.value_words.pairs_into.Goals as goal

pub loop-i-preserved : goal.loop-i-preserved
loop-i-preserved c =
    let i = c.loop-i.i in
    let room = c.loop-i.room in
    let digits = c.args.digits.now in
    let v = c.digit_value-high.result % 16 * 16 + c.digit_value-low.result % 16 in
    let rest = drop (2 * (i + 1)) digits in
    let here : i < length room = omega (arith, c.loop-i-test.true, c.loop-i.invariant.len) in
    let high : is_lower_digit (get_or digits (2 * i) 0) ≡ true = lower_there digits (2 * i) (omega (arith, c.requires.len, c.loop-i-test.true)) c.requires.lower in
    let low : is_lower_digit (get_or digits (2 * i + 1) 0) ≡ true = lower_there digits (2 * i + 1) (omega (arith, c.requires.len, c.loop-i-test.true)) c.requires.lower in
    let two = two_more digits (length c.args.room.now) i c.digit_value-high.result c.digit_value-low.result c.requires.len c.loop-i-test.true (c.digit_value-high.ensures high) (c.digit_value-low.ensures low) in
    record {
      bytes = ap (λ (t : List ℕ). t ++ pairs_of rest) (take_more_set room i v here) ∙ append_assoc (take i room) (v ∷ []) (pairs_of rest) ∙ ap (λ (t : List ℕ). take i room ++ t) two ∙ c.loop-i.invariant.bytes;
      len = search rules;
    }
