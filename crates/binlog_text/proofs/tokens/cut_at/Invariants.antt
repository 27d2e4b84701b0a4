use Rattle.std.proofs.Common.{◌≡◌, ◌++◌, take, drop}
use Rattle.binlog_text.specs.Tokens.{before, behind}
use Rattle.binlog_text.proofs.tokens.cut_at.Given as goal

abbrev pub invariant-loop-i : goal.invariant-loop-i
invariant-loop-i l = record {
  front : take l.i l.text ++ before l.at (drop l.i l.text) ≡ before l.at l.text;
  rest : behind l.at (drop l.i l.text) ≡ behind l.at l.text;
}
