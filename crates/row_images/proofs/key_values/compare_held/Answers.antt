use Rattle.row_images.proofs.Ranks.{some_beside_none}
use Rattle.row_images.specs.Held.{held_values}
use Rattle.row_images.proofs.key_values.compare_held.Goals as goal

pub returns-in-None-first_rank : goal.returns-in-None-first_rank
returns-in-None-first_rank c = some_beside_none (held_values c.args.a.now) (held_values c.args.b.now) c.in-Some.ensures.some.value c.in-Some.ensures.some.first c.in-None-first_rank.ensures.none
