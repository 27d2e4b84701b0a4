use Rattle.std.proofs.Common.{sym, subst}
use Rattle.std.specs.Str.{IsAscii}
use Rattle.row_images.proofs.AsciiLemmas.{ascii_digits}
use Rattle.row_images.proofs.value_words.write_digits.Goals as goal

pub text_of-requires : goal.text_of-requires
text_of-requires c = subst IsAscii (sym c.encode_into.ensures) (ascii_digits c.args.bytes.now)
