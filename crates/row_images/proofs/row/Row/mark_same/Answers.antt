use Rattle.std.proofs.Common.{◌≡◌, get_or, option_map, ◌∙◌, arith}
use Rattle.std.specs.Ordering.{eq_by_cmp}
use Rattle.row_images.specs.Order.{value_cmp}
use Rattle.row_images.specs.OnePass.{words_left}
use Rattle.row_images.specs.declared.value.Value.TheVariants.{Null}
use Rattle.row_images.proofs.Passes.{left_on, word_here, same_here, marks_on}
use Rattle.row_images.proofs.row.Row.mark_same.Goals as goal

pub loop-mark-preserved : goal.loop-mark-preserved
loop-mark-preserved c =
    let us = c.args.self.now in
    let vs = c.args.other.now in
    let i = c.loop-mark.mark-index in
    let left = words_left (option_map (λ t. t.now) c.loop-mark.left) in
    let other = words_left (option_map (λ t. t.now) c.loop-mark.other_left) in
    let v = c.next_word.result.0.now in
    let w = c.next_word-in-loop-mark.result.0.now in
    let here : c.eq.result ≡ eq_by_cmp value_cmp (get_or us i Null) (get_or vs i Null) =
    c.eq.ensures ∙ same_here us vs i v w c.keeps_rules.ensures c.keeps_rules-2.ensures
    (word_here us i left v c.loop-mark.invariant.left c.next_word.ensures.word)
    (word_here vs i other w c.loop-mark.invariant.other_left c.next_word-in-loop-mark.ensures.word) in
    record {
      made = marks_on (λ k. eq_by_cmp value_cmp (get_or us k Null) (get_or vs k Null)) c.loop-mark.marks i c.eq.result (omega (arith, c.loop-mark-test.true, c.loop-mark.auto.marks)) c.loop-mark.invariant.made here;
      left = left_on us i left _ c.loop-mark.invariant.left c.next_word.ensures.rest;
      other_left = left_on vs i other _ c.loop-mark.invariant.other_left c.next_word-in-loop-mark.ensures.rest;
    }
