use Rattle.std.proofs.Common.{ap, ◌∙◌}
use Rattle.audit.specs.Contents.{in_order}
use Rattle.audit.proofs.Firsts.{listed}
use Rattle.audit.proofs.contents.Contents.in_order.Goals as goal

pub returns : goal.returns
returns c = c.deref.ensures.value ∙ listed c.self.inside.entries.items c.self.invariant ∙ ap in_order c.self.view_is
