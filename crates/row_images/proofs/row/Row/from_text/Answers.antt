use Rattle.std.proofs.Common.{◌≡◌, true, is_some, length, subst, sym, ap, ◌∙◌}
use Rattle.std.specs.Prelude.{IfSome}
use Rattle.row_images.specs.Images.{image_of, words_of, values_in, values_text}
use Rattle.row_images.proofs.ImageLaws.{read_text}
use Rattle.row_images.proofs.RowLaws.{counted}
use Rattle.row_images.proofs.row.Row.from_text.Goals as goal

pub invariant_of-result : goal.invariant_of-result
invariant_of-result c =
    let some : is_some (image_of c.args.text.now) ≡ true = sym c.image_len.ensures.some ∙ ap is_some c.in-Some.is in
    let len : c.in-Some.columns ≡ length (words_of c.args.text.now) = subst (λ r. IfSome r (λ n. n ≡ length (words_of c.args.text.now))) c.in-Some.is c.image_len.ensures.len in
    let h = c.in_ok-text.ensures in (
      subst (λ t. values_text (values_in t) ≡ t) (sym h.0) (read_text c.args.text.now some),
      h.1 ∙ len ∙ counted c.args.text.now some ∙ ap (λ t. length (values_in t)) (sym h.0),
    )
