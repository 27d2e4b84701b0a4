use Rattle.interval_pool.proofs.seek.last.Goals as goal
use Rattle.interval_pool.proofs.Appending.{end_is, place_is_last}

pub returns-then-is_last : goal.returns-then-is_last
returns-then-is_last c = end_is c.args.cells.now c.args.heads.now c.args.list c.args.guess c.requires.whole (c.is_last.ensures c.if-is_last.true)

pub returns : goal.returns
returns c = place_is_last c.args.cells.now c.args.heads.now c.args.list c.args.number c.seek.result c.seek.ensures c.requires.below
