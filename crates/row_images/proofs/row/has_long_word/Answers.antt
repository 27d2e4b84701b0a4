use Rattle.std.proofs.Common.{◌≡◌, true, false, Some, option_map, sym, ap, ◌∙◌}
use Rattle.row_images.specs.Words.{others}
use Rattle.row_images.specs.Values.{is_long_word}
use Rattle.row_images.proofs.Cuts.{others-shorter}
use Rattle.row_images.proofs.ImageSteps.{long_here, long_last, long_next}
use Rattle.row_images.proofs.row.has_long_word.Goals as goal

pub returns-then-is_long_word : goal.returns-then-is_long_word
returns-then-is_long_word c =
    let long : is_long_word c.args.most c.cut.result.0.now ≡ true = cc in
    long_here c.args.most c.words.left.now c.cut.result.0.now _ c.cut.ensures.word c.cut.ensures.rest long ∙ c.words.invariant

pub words-smaller : goal.words-smaller
words-smaller c =
    let e : others c.words.left.now ≡ Some c.in-Some.after.now = sym c.cut.ensures.rest ∙ ap (option_map (λ r. r.now)) c.in-Some.is in
    others-shorter _ _ e

pub words-preserved : goal.words-preserved
words-preserved c =
    let short : is_long_word c.args.most c.cut.result.0.now ≡ false = cc in
    long_next c.args.most c.words.left.now c.cut.result.0.now c.in-Some.after.now _ c.cut.ensures.word c.cut.ensures.rest short (ap (option_map (λ r. r.now)) c.in-Some.is) ∙ c.words.invariant

pub returns-in-None : goal.returns-in-None
returns-in-None c =
    let short : is_long_word c.args.most c.cut.result.0.now ≡ false = cc in
    long_last c.args.most c.words.left.now c.cut.result.0.now _ c.cut.ensures.word c.cut.ensures.rest short (ap (option_map (λ r. r.now)) c.in-None.is) ∙ c.words.invariant
