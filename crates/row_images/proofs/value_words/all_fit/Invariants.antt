use Rattle.std.proofs.Common.{take}
use Rattle.row_images.specs.Images.{AreValues}
use Rattle.row_images.proofs.value_words.all_fit.Given as goal

abbrev pub invariant-loop-value : goal.invariant-loop-value
invariant-loop-value l = AreValues (take l.value-index l.values)
