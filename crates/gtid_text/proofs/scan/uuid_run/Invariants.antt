use Rattle.std.proofs.Common.{◌≡◌, ◌++◌, take, drop}
use Rattle.gtid_text.specs.Scan.{is_uuid_byte, run, skip_while}
use Rattle.gtid_text.proofs.scan.uuid_run.Given as goal

abbrev pub invariant-loop-i : goal.invariant-loop-i
invariant-loop-i l = record {
  front : take l.i l.rest ++ run is_uuid_byte (drop l.i l.rest) ≡ run is_uuid_byte l.rest;
  behind : skip_while is_uuid_byte (drop l.i l.rest) ≡ skip_while is_uuid_byte l.rest;
}
