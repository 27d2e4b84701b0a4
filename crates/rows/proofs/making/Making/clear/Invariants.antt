use Rattle.std.proofs.Common.{◌≡◌}
use Rattle.rows.specs.Apply.{without_keys}
use Rattle.rows.proofs.making.Making.clear.Given as goal

abbrev pub invariant-loop-key : goal.invariant-loop-key
invariant-loop-key l = (without_keys l.keys.items l.self.made ≡ without_keys l.fn.keys.items l.fn.self.made) × (l.self.before ≡ l.fn.self.before)

abbrev pub decreases-loop-key : goal.decreases-loop-key
decreases-loop-key l = l.keys.len
