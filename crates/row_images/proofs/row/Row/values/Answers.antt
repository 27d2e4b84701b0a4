use Rattle.std.proofs.Common.{◌≡◌, ◌<◌, length, option_map, get_or, ◌∙◌, arith}
use Rattle.row_images.specs.Values.{value_text}
use Rattle.row_images.specs.OnePass.{words_left}
use Rattle.row_images.specs.declared.value.Value.TheVariants.{Null}
use Rattle.row_images.proofs.Passes.{left_on, word_here, value_here, read_on}
use Rattle.row_images.proofs.row.Row.values.Goals as goal

pub loop-read-preserved : goal.loop-read-preserved
loop-read-preserved c =
    let row = c.args.self.now in
    let i = c.loop-read._read in
    let left = words_left (option_map (λ t. t.now) c.loop-read.left) in
    let w = c.next_word.result.0.now in
    let lt : i < length row = omega (arith, c.loop-read-test.true, c.len-read-end.ensures) in
    let word : w ≡ value_text (get_or row i Null) = word_here row i left w c.loop-read.invariant.left c.next_word.ensures.word in
    let value : c.unwrap_or.result ≡ get_or row i Null = c.unwrap_or.ensures ∙ value_here row i w c.in_ok-value.value c.keeps_rules.ensures word c.in_ok-value.ensures in
    record {
      read = read_on row i c.unwrap_or.result c.loop-read.values.items _ lt c.in_ok-push.ensures.items c.loop-read.invariant.read value;
      left = left_on row i left _ c.loop-read.invariant.left c.next_word.ensures.rest;
    }
