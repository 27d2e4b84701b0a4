use Rattle.std.proofs.Common.{◌≡◌, length}
use Rattle.std.specs.List.{list_any}
use Rattle.row_images.specs.Values.{is_long_word}
use Rattle.row_images.specs.Images.{words_of}
use Rattle.row_images.proofs.row.has_long_word.Given as goal

abbrev pub invariant-words : goal.invariant-words
invariant-words l = list_any (is_long_word l.most) (words_of l.left) ≡ list_any (is_long_word l.most) (words_of l.text)

abbrev pub decreases-words : goal.decreases-words
decreases-words l = length l.left
