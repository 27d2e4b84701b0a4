use Rattle.std.proofs.Common.{nat_eq, ◌∙◌}
use Rattle.row_images.specs.Held.{image_bytes}
use Rattle.std.specs.Cmp.Lexicographic.{pointwise}
use Rattle.row_images.specs.Order.{row_eq}
use Rattle.row_images.proofs.RowLaws.{rows_same}
use Rattle.row_images.proofs.row.RowPartialEq.eq.Goals as goal

pub returns : goal.returns
returns c =
    c.eq.ensures ∙ (λ i. pointwise nat_eq (c.as_slice.ensures.value i) (c.as_slice-2.ensures.value i))
    ∙ rows_same (image_bytes c.self.inside.text) (image_bytes c.other.inside.text) c.self.invariant.0 c.other.invariant.0
    ∙ (λ i. row_eq (c.self.view_is i) (c.other.view_is i))
