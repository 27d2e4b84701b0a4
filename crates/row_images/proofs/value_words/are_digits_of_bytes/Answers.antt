use Rattle.row_images.proofs.LowerDigits.{lower_decides}
use Rattle.row_images.proofs.value_words.are_digits_of_bytes.Goals as goal

pub returns-then-digits-eq0 : goal.returns-then-digits-eq0
returns-then-digits-eq0 c = lower_decides c.args.digits.now c.are_lower_digits.result c.if-digits-eq0.true c.are_lower_digits.ensures
