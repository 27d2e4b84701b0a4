use Rattle.std.proofs.Common.{◌∙◌}
use Rattle.std.specs.Prelude.{nat_eq}
use Rattle.std.specs.Cmp.Lexicographic.{pointwise}
use Rattle.row_images.proofs.Equal.{bytes_told}
use Rattle.rows.proofs.name.NamePartialEq.eq.Goals as goal

pub returns : goal.returns
returns c =
    c.eq.ensures
    ∙ (λ i. pointwise nat_eq ((c.as_bytes.ensures.value ∙ c.as_str-text.ensures.value ∙ c.self.view_is) i) ((c.as_bytes-2.ensures.value ∙ c.as_str.ensures.value ∙ c.other.view_is) i))
    ∙ bytes_told c.args.self.now c.args.other.now
