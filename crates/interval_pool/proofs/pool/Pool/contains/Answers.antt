use Rattle.std.proofs.Common.{◌∙◌}
use Rattle.interval_pool.specs.Values.{spans}
use Rattle.interval_pool.proofs.pool.Pool.contains.Goals as goal
use Rattle.interval_pool.proofs.Standing.{some_has}

pub returns : goal.returns
returns c = c.is_some.ensures ∙ some_has c.interval_with.result (spans c.args.self.now c.args.list) c.args.number c.interval_with.ensures.one c.interval_with.ensures.covers c.interval_with.ensures.none
