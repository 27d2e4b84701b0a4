use Rattle.std.proofs.Common.{◌≤◌, length, ◌∙◌, arith}
use Rattle.row_images.proofs.FewDigits.{few_digits}
use Rattle.row_images.proofs.value_words.is_int_from_zero.Goals as goal

pub returns-then-word-le-FEW_DECIMAL_DIGITS : goal.returns-then-word-le-FEW_DECIMAL_DIGITS
returns-then-word-le-FEW_DECIMAL_DIGITS c =
    let few : length c.args.word.now ≤ 18 = omega (arith, c.if-word-le-FEW_DECIMAL_DIGITS.true) in
    c.is_count.ensures ∙ few_digits c.args.word.now c.requires few
