use Rattle.std.proofs.Common.{◌≡◌, ◌+◌, suc, drop, option_map, sym, ap, ◌∙◌, arith}
use Rattle.row_images.specs.Images.{words_of}
use Rattle.row_images.proofs.ImageSteps.{words_from, word_there, no_more}
use Rattle.audit.proofs.row_words.word_in.Goals as goal

pub returns-in-None : goal.returns-in-None
returns-in-None c = no_more c.loop-passed.left.now c.loop-passed._passed c.args.place (words_of c.args.text.now) c.loop-passed.invariant (sym (ap (option_map (λ r. r.now)) c.in-None.is) ∙ c.cut.ensures.rest) c.loop-passed-test.true

pub returns : goal.returns
returns c =
    let all : c.loop-passed._passed ≡ c.args.place = omega (arith, c.loop-passed-test.false, c.loop-passed.auto._passed-end) in
    word_there c.loop-passed.left.now c.cut-2.result.0.now c.args.place (words_of c.args.text.now) (c.loop-passed.invariant ∙ ap (λ n. drop n (words_of c.args.text.now)) all) c.cut-2.ensures.word

pub loop-passed-preserved : goal.loop-passed-preserved
loop-passed-preserved c =
    let one : suc c.loop-passed._passed ≡ c.loop-passed._passed + 1 = omega arith in
    words_from c.loop-passed.left.now c.in-Some.after.now c.loop-passed._passed (words_of c.args.text.now) c.loop-passed.invariant (sym (ap (option_map (λ r. r.now)) c.in-Some.is) ∙ c.cut.ensures.rest)
    ∙ ap (λ n. drop n (words_of c.args.text.now)) one
