use Rattle.std.proofs.Common.{◌≡◌, true, ◌∙◌}
use Rattle.row_images.specs.Words.{is_count}
use Rattle.row_images.proofs.Numerals.{parsed_count, utf8_in}
use Rattle.row_images.proofs.words.long_count.Goals as goal

pub returns-in-Ok : goal.returns-in-Ok
returns-in-Ok c =
    let e : is_count c.args.word.now ≡ true = cc in
    c.ok.ensures.value ∙ parsed_count c.args.word.now c.parse.result e (rw c.in-Ok.ensures.cases.0 at c.parse.ensures.value.0)

pub returns-in-Err : goal.returns-in-Err
returns-in-Err c =
    let e : is_count c.args.word.now ≡ true = cc in
    absurd (c.in-Err.ensures.cases.0 (utf8_in c.args.word.now e))
