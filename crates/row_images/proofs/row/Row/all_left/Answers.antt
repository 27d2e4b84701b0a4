use Rattle.std.proofs.Common.{◌≡◌, ◌==◌, ◌<◌, length, sym, ap, ◌∙◌}
use Rattle.std.proofs.lemmas.Bool.{eqb-true}
use Rattle.row_images.specs.Held.{image_bytes}
use Rattle.row_images.specs.Images.{words_of}
use Rattle.row_images.proofs.ImageLaws.{texts, row_words}
use Rattle.row_images.proofs.Passes.{no_texts}
use Rattle.row_images.proofs.RowLaws.{stands}
use Rattle.row_images.proofs.row.Row.all_left.Goals as goal

pub returns-then-is_empty : goal.returns-then-is_empty
returns-then-is_empty c =
    let none : length (image_bytes c.self.inside.text) ≡ 0 = sym c.as_slice-text.ensures.len ∙ eqb-true _ 0 (sym c.is_empty.ensures ∙ c.if-is_empty.true) in
    no_texts (image_bytes c.self.inside.text) none ∙ ap texts c.self.view_is

pub returns : goal.returns
returns c =
    let t = image_bytes c.self.inside.text in
    let some : 0 < length t = stands t (sym (ap (λ n. n == 0) c.as_slice-text.ensures.len) ∙ sym c.is_empty.ensures ∙ c.if-is_empty.false) in
    ap words_of c.as_slice-text.ensures.value ∙ row_words t c.self.invariant.0 some ∙ ap texts c.self.view_is
