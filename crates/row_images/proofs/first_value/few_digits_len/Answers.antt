use Rattle.std.proofs.Common.{◌≤◌, sym, ◌∙◌, arith}
use Rattle.row_images.proofs.FirstValue.{few_front}
use Rattle.row_images.proofs.first_value.few_digits_len.Goals as goal

pub returns-clause-len : goal.returns-clause-len
returns-clause-len c =
    let n = c.run_end-end.result in
    let some : 1 ≤ n = omega (arith, c.if-end-lt1.false) in
    let few : n ≤ 18 = omega (arith, c.if-end-gt-FEW_DECIMAL_DIGITS.false) in
    few_front c.args.text.now n c.run_end-end.ensures (sym c.ends_at.ensures ∙ c.if-not-ends_at.false) some few (sym c.has_idle_zero.ensures ∙ c.if-has_idle_zero.false)
