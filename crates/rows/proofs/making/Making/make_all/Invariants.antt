use Rattle.std.proofs.Common.{◌≡◌, drop, []}
use Rattle.rows.specs.Apply.{apply_from}
use Rattle.rows.proofs.making.Making.make_all.Given as goal

abbrev pub invariant-loop-n : goal.invariant-loop-n
invariant-loop-n l = (apply_from l.schema l.n (drop l.n l.changes) l.self.made ≡ apply_from l.schema 0 l.changes l.fn.self.made) × (l.self.before ≡ l.fn.self.before) × (l.keys.items ≡ [])
