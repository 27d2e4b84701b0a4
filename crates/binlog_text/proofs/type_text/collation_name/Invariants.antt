use Rattle.std.proofs.Common.{◌≡◌, drop}
use Rattle.binlog_text.specs.Types.{collation_name}
use Rattle.binlog_text.proofs.type_text.collation_name.Given as goal

abbrev pub invariant-loop-i : goal.invariant-loop-i
invariant-loop-i l = collation_name (drop l.i l.text) ≡ collation_name l.fn.text
