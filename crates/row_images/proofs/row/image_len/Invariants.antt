use Rattle.std.proofs.Common.{◌≡◌, ◌+◌, ◌≤◌, is_some, length}
use Rattle.row_images.specs.Images.{image_of, words_of}
use Rattle.row_images.proofs.row.image_len.Given as goal

abbrev pub invariant-words : goal.invariant-words
invariant-words l = record {
  some : is_some (image_of l.left) ≡ is_some (image_of l.text);
  words : l.count + length (words_of l.left) ≡ length (words_of l.text) + 1;
  few : l.count + length l.left ≤ length l.text + 1;
}

abbrev pub decreases-words : goal.decreases-words
decreases-words l = length l.left
