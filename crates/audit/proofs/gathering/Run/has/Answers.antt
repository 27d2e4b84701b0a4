use Rattle.std.proofs.Common.{sym, ◌∙◌}
use Rattle.audit.proofs.Gatherings.{listed_same}
use Rattle.audit.proofs.gathering.Run.has.Goals as goal

pub returns-then-is_same : goal.returns-then-is_same
returns-then-is_same c = λ yes.
    listed_same c.args.self.now.entries c.in-Some.first.now c.args.entry.now c.in-Some.ensures (sym c.is_same.ensures ∙ c.if-is_same.true) (sym c.is_equal.ensures ∙ yes)
