use Rattle.std.proofs.Common.{◌≡◌, ◌++◌, take, drop}
use Rattle.std.specs.Char.{is_ascii_digit}
use Rattle.gtid_text.specs.Scan.{run, skip_while}
use Rattle.gtid_text.proofs.scan.digit_run.Given as goal

abbrev pub invariant-loop-i : goal.invariant-loop-i
invariant-loop-i l = record {
  front : take l.i l.rest ++ run is_ascii_digit (drop l.i l.rest) ≡ run is_ascii_digit l.rest;
  behind : skip_while is_ascii_digit (drop l.i l.rest) ≡ skip_while is_ascii_digit l.rest;
}
