use Rattle.std.proofs.Common.{◌≡◌, ◌^◌, ◌<◌, take}
use Rattle.std.specs.Str.Parse.{digits_value}
use Rattle.gtid_text.proofs.scan.parse_digits.Given as goal

abbrev pub invariant-digits : goal.invariant-digits
invariant-digits l = (l.number ≡ digits_value 10 (take l.digit-index l.digits)) × (l.number < 2 ^ 64)

abbrev pub invariant-few : goal.invariant-few
invariant-few l = (l.number ≡ digits_value 10 (take l.digit-index l.digits)) × (l.number < 10 ^ l.digit-index)
