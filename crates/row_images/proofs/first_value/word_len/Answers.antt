use Rattle.row_images.proofs.FirstValue.{word_within}
use Rattle.row_images.proofs.first_value.word_len.Goals as goal

pub returns-then-is_value-clause-within : goal.returns-then-is_value-clause-within
returns-then-is_value-clause-within c = word_within c.args.text.now c.cut.result.0.now c.cut.ensures.word
