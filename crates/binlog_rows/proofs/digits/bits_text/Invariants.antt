use Rattle.std.proofs.Common.{◌≡◌, take}
use Rattle.std.specs.List.{flat_map}
use Rattle.binlog_rows.specs.Digits.{byte_digits}
use Rattle.binlog_rows.proofs.digits.bits_text.Given as goal

abbrev pub invariant-loop-byte : goal.invariant-loop-byte
invariant-loop-byte l = l.text.items ≡ flat_map byte_digits (take l.byte-index l.bytes)
