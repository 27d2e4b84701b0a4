use Rattle.std.proofs.Common.{◌<◌, length, option_map, ap, ◌∙◌, arith}
use Rattle.std.specs.List.{slice_get}
use Rattle.row_images.specs.Held.{image_bytes}
use Rattle.row_images.specs.Images.{words_of, values_in}
use Rattle.row_images.specs.Values.{value_text}
use Rattle.row_images.proofs.RowLaws.{word_at, holds_one}
use Rattle.row_images.proofs.row.Row.word_at.Goals as goal

pub returns : goal.returns
returns c =
    let t = image_bytes c.self.inside.text in
    let lt : c.args.column < length (values_in t) = omega (arith, c.if-column-values.false, c.values.ensures, c.self.invariant.1) in
    c.word_in.ensures ∙ ap (λ x. slice_get (words_of x) c.args.column) c.as_slice.ensures.value ∙ word_at t c.args.column c.self.invariant.0 (holds_one t c.args.column lt)
    ∙ ap (λ vs. option_map value_text (slice_get vs c.args.column)) c.self.view_is
