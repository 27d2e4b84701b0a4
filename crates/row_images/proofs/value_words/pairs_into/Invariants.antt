use Rattle.std.proofs.Common.{◌≡◌, ◌*◌, ◌++◌, length, take, drop}
use Rattle.row_images.specs.Values.{pairs_of}
use Rattle.row_images.proofs.value_words.pairs_into.Given as goal

abbrev pub invariant-loop-i : goal.invariant-loop-i
invariant-loop-i l = record {
  bytes : take l.i l.room ++ pairs_of (drop (2 * l.i) l.digits) ≡ pairs_of l.digits;
  len : length l.room ≡ length l.fn.room;
}
