use Rattle.std.proofs.Common.{sym, ◌∙◌}
use Rattle.audit.proofs.Gapped.{none_in_order}
use Rattle.audit.proofs.sources.World.other_gaps.Goals as goal

pub returns-then-ordered : goal.returns-then-ordered
returns-then-ordered c = c.new.ensures.items ∙ sym (none_in_order c.args.self.now c.args.journals.now c.lie_beyond.ensures (c.requires c.if-ordered.true) c.args.verdict.now)
