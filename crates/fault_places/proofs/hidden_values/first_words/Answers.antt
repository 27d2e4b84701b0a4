use Rattle.std.proofs.Common.{arith}
use Rattle.fault_places.proofs.FirstWords.{words_go_on, word_goes_on}
use Rattle.fault_places.proofs.hidden_values.first_words.Goals as goal
use Rattle.fault_places.proofs.hidden_values.first_words.Goals.{then-byte-eq32+else-left-eq1, else-byte-eq32}

pub loop-i-preserved : goal.loop-i-preserved
loop-i-preserved c =
    let text = c.args.text.now in
    let i = c.loop-i.i in
    let some = c.loop-i.invariant.some in
    elim c.if-byte-eq32.branch [
      | then-byte-eq32+else-left-eq1 w ↦ record {
        some = omega (arith, w.if-left-eq1.false, w.left-is, some);
        so_far = words_go_on text _ i c.loop-i-test.true c.loop-i.left _ (omega (arith, w.if-left-eq1.false, some)) w.left-is w.if-byte-eq32.true c.loop-i.invariant.so_far;
      }
      | else-byte-eq32 w ↦ record {
        some = omega (arith, w.left-is, some);
        so_far = word_goes_on text _ i c.loop-i-test.true c.loop-i.left _ some w.left-is w.if-byte-eq32.false c.loop-i.invariant.so_far;
      }
    ]
