use Rattle.std.proofs.Common.{◌≡◌, ◌++◌, take, drop}
use Rattle.row_images.specs.Parts.{before, behind}
use Rattle.txn_journal.proofs.tables.cut_at.Given as goal

abbrev pub invariant-loop-i : goal.invariant-loop-i
invariant-loop-i l = record {
  front : take l.i l.text ++ before l.separator (drop l.i l.text) ≡ before l.separator l.text;
  behind : behind l.separator (drop l.i l.text) ≡ behind l.separator l.text;
}
