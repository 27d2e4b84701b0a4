use Rattle.std.proofs.Common.{ℕ, ◌+◌, ◌*◌, ◌<◌, ap, ◌∙◌, arith}
use Rattle.gtid_text.proofs.Tokens.{digit_read, small_fits, too_great, all_read, one_more, digit_below, stays_below, fits_below}
use Rattle.gtid_text.proofs.scan.parse_digits.Goals as goal

pub returns-in_default : goal.returns-in_default
returns-in_default c = too_great c.args.digits.now c.digits.digit-index c.digits.number c.requires c.digits-test.true c.digits.invariant.0 c.in_default.ensures

pub digits-preserved : goal.digits-preserved
digits-preserved c = (
  digit_read c.args.digits.now c.digits.digit-index c.digits.number c.in-Some.more c.requires c.digits-test.true c.digits.invariant.0 c.in-Some.ensures,
  small_fits _ c.in-Some.more c.in-Some.ensures,
)

pub returns : goal.returns
returns c = all_read c.args.digits.now c.digits.digit-index c.digits.number c.digits-test.false c.digits.invariant.1 c.digits.invariant.0

pub overflow_mul-number : goal.overflow_mul-number
overflow_mul-number c =
    let below = fits_below c.few.digit-index c.few.number 0 (omega arith) c.few.invariant.1 (omega arith) in
    omega arith

pub overflow_add-number : goal.overflow_add-number
overflow_add-number c =
    let digit : c.from.result < 10 = digit_below c.args.digits.now c.few.digit-index c.from.result c.requires c.few-test.true c.from.ensures in
    let below = fits_below c.few.digit-index c.few.number c.from.result (omega arith) c.few.invariant.1 digit in
    omega arith

pub few-preserved : goal.few-preserved
few-preserved c =
    let digit : c.from.result < 10 = digit_below c.args.digits.now c.few.digit-index c.from.result c.requires c.few-test.true c.from.ensures in (
      ap (λ (d : ℕ). c.few.number * 10 + d) c.from.ensures ∙ one_more c.args.digits.now c.few.digit-index c.few.number c.requires c.few-test.true c.few.invariant.0,
      stays_below c.few.digit-index c.few.number c.from.result c.few.invariant.1 digit,
    )
