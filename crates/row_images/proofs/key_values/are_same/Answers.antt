use Rattle.std.proofs.Common.{◌∙◌}
use Rattle.std.specs.Prelude.{nat_eq}
use Rattle.std.specs.Cmp.Lexicographic.{pointwise}
use Rattle.row_images.proofs.Equal.{byte_strings_told}
use Rattle.row_images.proofs.key_values.are_same.Goals as goal

pub returns : goal.returns
returns c = c.eq.ensures ∙ (λ i. pointwise nat_eq (c.as_slice.ensures i) (c.as_slice-2.ensures i)) ∙ byte_strings_told c.args.a.now c.args.b.now
