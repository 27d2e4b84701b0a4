use Rattle.std.proofs.Common.{length, ap, ◌∙◌}
use Rattle.row_images.proofs.row.Row.len.Goals as goal

pub returns : goal.returns
returns c = c.values.ensures ∙ c.self.invariant.1 ∙ ap (λ vs. length vs) c.self.view_is
