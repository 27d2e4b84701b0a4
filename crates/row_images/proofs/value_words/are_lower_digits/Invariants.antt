use Rattle.std.proofs.Common.{◌≡◌, drop}
use Rattle.std.specs.Prelude.{◌&&◌}
use Rattle.std.specs.List.{list_all}
use Rattle.row_images.specs.Values.{is_lower_digit}
use Rattle.row_images.proofs.value_words.are_lower_digits.Given as goal

abbrev pub invariant-loop-byte : goal.invariant-loop-byte
invariant-loop-byte l = (l.lower && list_all is_lower_digit (drop l.byte-index l.word)) ≡ list_all is_lower_digit l.word
