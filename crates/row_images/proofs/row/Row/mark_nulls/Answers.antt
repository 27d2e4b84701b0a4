use Rattle.std.proofs.Common.{◌≡◌, nat_eq, get_or, option_map, ap, ◌∙◌, arith}
use Rattle.std.specs.Cmp.Lexicographic.{pointwise}
use Rattle.row_images.specs.Values.{value_text, is_null}
use Rattle.row_images.specs.OnePass.{words_left}
use Rattle.row_images.specs.declared.value.Value.TheVariants.{Null}
use Rattle.row_images.proofs.Passes.{left_on, word_here, null_here, marks_on}
use Rattle.row_images.proofs.row.Row.mark_nulls.Goals as goal

pub loop-mark-preserved : goal.loop-mark-preserved
loop-mark-preserved c =
    let row = c.args.self.now in
    let i = c.loop-mark.mark-index in
    let left = words_left (option_map (λ t. t.now) c.loop-mark.left) in
    let w = c.next_word.result.0.now in
    let word : w ≡ value_text (get_or row i Null) = word_here row i left w c.loop-mark.invariant.left c.next_word.ensures.word in
    let here : c.eq.result ≡ is_null (get_or row i Null) = c.eq.ensures ∙ ap (λ x. pointwise nat_eq w x) c.as_slice.ensures ∙ null_here row i w c.keeps_rules.ensures word in
    record {
      made = marks_on (λ k. is_null (get_or row k Null)) c.loop-mark.marks i c.eq.result (omega (arith, c.loop-mark-test.true, c.loop-mark.auto.marks)) c.loop-mark.invariant.made here;
      left = left_on row i left _ c.loop-mark.invariant.left c.next_word.ensures.rest;
    }
