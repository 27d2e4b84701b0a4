use Rattle.row_images.proofs.LowerDigits.{value_by_halves}
use Rattle.row_images.proofs.value_words.digit_value.Goals as goal

pub returns : goal.returns
returns c = value_by_halves c.args.byte
