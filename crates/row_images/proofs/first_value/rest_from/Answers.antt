use Rattle.std.proofs.lemmas.List.{take_rest}
use Rattle.row_images.proofs.first_value.rest_from.Goals as goal

pub returns : goal.returns
returns c = take_rest c.args.text.now c.args.from
