use Rattle.std.proofs.Common.{arith}
use Rattle.row_images.proofs.ValueLaws.{below_is, below_out, below_less}
use Rattle.row_images.proofs.value_words.int_below_zero.Goals as goal

pub returns-in_default : goal.returns-in_default
returns-in_default c = below_less c.args.digits.now c.in_default.ensures

pub returns-then-number-lt1 : goal.returns-then-number-lt1
returns-then-number-lt1 c = below_out c.args.digits.now c.in-Some.number c.in-Some.ensures (λ low high. let less = c.if-number-lt1.true in omega (arith, low, less))

pub returns : goal.returns
returns c =
    below_is c.args.digits.now c.in-Some.number c.negative.result c.negative.ensures c.in-Some.ensures
    c.if-number-lt1.false c.if-number-gt9223372036854775808.false
