use Rattle.std.proofs.Common.{◌≡◌, ◌++◌, take, drop}
use Rattle.binlog_text.specs.Types.{is_upper}
use Rattle.gtid_text.specs.Scan.{run, skip_while}
use Rattle.binlog_text.proofs.type_text.word.Given as goal

abbrev pub invariant-loop-i : goal.invariant-loop-i
invariant-loop-i l = record {
  front : take l.i l.text ++ run is_upper (drop l.i l.text) ≡ run is_upper l.text;
  behind : skip_while is_upper (drop l.i l.text) ≡ skip_while is_upper l.text;
}
