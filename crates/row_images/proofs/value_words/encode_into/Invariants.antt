use Rattle.std.proofs.Common.{◌≡◌, ◌*◌, ◌++◌, length, take, drop}
use Rattle.hex.specs.Hex.{encode_lower}
use Rattle.row_images.proofs.value_words.encode_into.Given as goal

abbrev pub invariant-loop-i : goal.invariant-loop-i
invariant-loop-i l = (take (2 * l.i) l.room ++ encode_lower (drop l.i l.bytes) ≡ encode_lower l.bytes) × (length l.room ≡ length l.fn.room)
