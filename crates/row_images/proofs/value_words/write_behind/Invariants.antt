use Rattle.std.proofs.Common.{◌≡◌, ◌++◌, drop}
use Rattle.std.specs.String.{string_bytes}
use Rattle.row_images.specs.Images.{values_behind}
use Rattle.row_images.proofs.value_words.write_behind.Given as goal

abbrev pub invariant-loop-value : goal.invariant-loop-value
invariant-loop-value l = string_bytes l.out ++ values_behind (drop l.value-index l.values) ≡ string_bytes l.fn.out ++ values_behind l.values
