use Rattle.std.proofs.Common.{◌≡◌}
use Rattle.rows.specs.Apply.{with_row}
use Rattle.rows.proofs.making.Making.place.Given as goal

abbrev pub invariant-loop-key : goal.invariant-loop-key
invariant-loop-key l = (with_row l.keys.items l.row l.self.made ≡ with_row l.fn.keys.items l.row l.fn.self.made) × (l.self.before ≡ l.fn.self.before)

abbrev pub decreases-loop-key : goal.decreases-loop-key
decreases-loop-key l = l.keys.len
