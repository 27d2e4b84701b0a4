use Rattle.std.proofs.Common.{sym}
use Rattle.audit.proofs.Numbers.{lengths_differ}
use Rattle.audit.proofs.equal.are_same_changes.Goals as goal

pub returns-then-a-b : goal.returns-then-a-b
returns-then-a-b c = sym (lengths_differ c.args.a.now c.args.b.now c.if-a-b.true)
