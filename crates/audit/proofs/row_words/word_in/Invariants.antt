use Rattle.std.proofs.Common.{◌≡◌, drop}
use Rattle.row_images.specs.Images.{words_of}
use Rattle.audit.proofs.row_words.word_in.Given as goal

abbrev pub invariant-loop-passed : goal.invariant-loop-passed
invariant-loop-passed l = words_of l.left ≡ drop l._passed (words_of l.text)
