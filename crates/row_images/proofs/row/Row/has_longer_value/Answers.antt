use Rattle.std.proofs.Common.{◌≤◌, ◌*◌, length, ap, ◌∙◌, arith}
use Rattle.row_images.specs.Held.{image_bytes}
use Rattle.std.specs.List.{list_any}
use Rattle.row_images.specs.Values.{is_longer, is_long_word}
use Rattle.row_images.specs.Images.{words_of}
use Rattle.row_images.proofs.RowLaws.{any_long, short_text}
use Rattle.row_images.proofs.row.Row.has_longer_value.Goals as goal

pub returns-then-text-most : goal.returns-then-text-most
returns-then-text-most c =
    let t = image_bytes c.self.inside.text in
    let le : length t ≤ 2 * c.args.most = omega (arith, c.if-text-most.true, c.as_slice-text.ensures.len) in
    short_text c.args.most t le ∙ any_long c.args.most t c.self.invariant.0 ∙ ap (list_any (is_longer c.args.most)) c.self.view_is

pub returns : goal.returns
returns c = c.has_long_word.ensures ∙ ap (λ t. list_any (is_long_word c.args.most) (words_of t)) c.as_slice-text.ensures.value ∙ any_long c.args.most (image_bytes c.self.inside.text) c.self.invariant.0 ∙ ap (list_any (is_longer c.args.most)) c.self.view_is
