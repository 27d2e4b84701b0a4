use Rattle.std.proofs.Common.{◌≡◌, ◌+◌, drop, Some, refl, sym, ap, ◌∙◌, arith}
use Rattle.row_images.specs.Words.{first_word, others}
use Rattle.row_images.specs.Values.{value_of}
use Rattle.row_images.proofs.FirstValue.{value_there, no_value_there, others_after, others_none}
use Rattle.row_images.proofs.ImageSteps.{image_ends, image_last, image_next, words_more, words_last}
use Rattle.row_images.proofs.Cuts.{others-shorter}
use Rattle.row_images.proofs.row.image_len.Goals as goal

pub returns-in_default-clause-some : goal.returns-in_default-clause-some
returns-in_default-clause-some c =
    let t = c.words.left.now in
    image_ends t (first_word t) (others t) refl refl (no_value_there value_of t (sym c.in_default.is ∙ c.value_len.ensures.len)) ∙ c.words.invariant.some

pub returns-then-len-left-clause-some : goal.returns-then-len-left-clause-some
returns-then-len-left-clause-some c =
    let t = c.words.left.now in
    let there = value_there value_of t c.in-Some.len c.in-Some.ensures.len in
    let last = others_none t (omega (arith, there.1, c.if-len-left.true)) in
    image_last t (first_word t) (others t) refl refl there.0 last ∙ c.words.invariant.some

pub returns-then-len-left-clause-len : goal.returns-then-len-left-clause-len
returns-then-len-left-clause-len c =
    let t = c.words.left.now in
    let there = value_there value_of t c.in-Some.len c.in-Some.ensures.len in
    let one = words_last t (others_none t (omega (arith, there.1, c.if-len-left.true))) in
    omega (arith, c.words.invariant.words, one)

pub words-preserved : goal.words-preserved
words-preserved c =
    let t = c.words.left.now in
    let there = value_there value_of t c.in-Some.len c.in-Some.ensures.len in
    let more : others t ≡ Some c.rest_from-left.result.now = others_after t (omega (arith, there.1, c.if-len-left.false)) ∙ ap (λ k. Some (drop (k + 1) t)) (sym there.1) ∙ ap Some (sym c.rest_from-left.ensures) in
    let less = others-shorter t c.rest_from-left.result.now more in
    let one = words_more t c.rest_from-left.result.now more in
    record {
      some = image_next t (first_word t) c.rest_from-left.result.now (others t) refl refl there.0 more ∙ c.words.invariant.some;
      words = omega (arith, c.words.invariant.words, one);
      few = omega (arith, c.words.invariant.few, less);
    }
