use Rattle.std.proofs.Common.{◌≡◌, ◌++◌, List, length, subst, sym, ap, ◌∙◌}
use Rattle.row_images.specs.Held.{image_bytes}
use Rattle.row_images.specs.Images.{AreValues, values_in, values_text}
use Rattle.row_images.specs.declared.value.Value.{Value}
use Rattle.row_images.proofs.ImageLaws.{written_text, written_in}
use Rattle.row_images.proofs.row.Row.new.Goals as goal

pub invariant_of-result : goal.invariant_of-result
invariant_of-result c =
    let text : image_bytes c.in_ok-text.text ≡ values_text c.args.values.items =
    c.in_ok-text.ensures.0 ∙ c.as_bytes.ensures.value ∙ c.in_ok-write_values.ensures ∙ ap (λ t. t ++ values_text c.as_slice-2.result.now) c.new-text.ensures.bytes ∙ ap values_text c.as_slice-2.ensures.value in
    let fits : AreValues c.args.values.items = subst AreValues c.as_slice.ensures.value c.all_fit.ensures in (
      written_text (image_bytes c.in_ok-text.text) c.args.values.items text fits,
      c.in_ok-text.ensures.1 ∙ ap (λ (vs : List Value). length vs) (c.as_slice-3.ensures.value ∙ sym (ap values_in text ∙ written_in c.args.values.items fits)),
    )

pub returns : goal.returns
returns c =
    let text : image_bytes c.in_ok-text.text ≡ values_text c.args.values.items =
    c.in_ok-text.ensures.0 ∙ c.as_bytes.ensures.value ∙ c.in_ok-write_values.ensures ∙ ap (λ t. t ++ values_text c.as_slice-2.result.now) c.new-text.ensures.bytes ∙ ap values_text c.as_slice-2.ensures.value in
    let fits : AreValues c.args.values.items = subst AreValues c.as_slice.ensures.value c.all_fit.ensures in
    ap values_in text ∙ written_in c.args.values.items fits
