use Rattle.std.proofs.Common.{◌≡◌, ◌<◌, ◌^◌, drop}
use Rattle.std.specs.List.{list_all}
use Rattle.std.specs.Char.{is_ascii_digit}
use Rattle.std.specs.Str.Parse.{digits_value, digits_value_after}
use Rattle.row_images.proofs.words.digits_count.Given as goal

abbrev pub invariant-loop-digit : goal.invariant-loop-digit
invariant-loop-digit l = (digits_value_after 10 l.value (drop l.digit-index l.word) ≡ digits_value 10 l.word) × (list_all is_ascii_digit (drop l.digit-index l.word) ≡ list_all is_ascii_digit l.word) × (l.value < 10 ^ l.digit-index)
