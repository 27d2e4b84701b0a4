use Rattle.std.proofs.Common.{◌≡◌, take, option_map}
use Rattle.row_images.specs.OnePass.{words_left}
use Rattle.row_images.proofs.Passes.{IsLeft}
use Rattle.row_images.proofs.row.Row.values.Given as goal

abbrev pub invariant-loop-read : goal.invariant-loop-read
invariant-loop-read l = record {
  read : l.values.items ≡ take l._read l.self;
  left : IsLeft (words_left (option_map (λ t. t.now) l.left)) l.self l._read;
}
