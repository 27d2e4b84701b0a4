use Rattle.std.proofs.Common.{◌≡◌, ◌+◌, ◌++◌, drop}
use Rattle.std.specs.String.{string_bytes}
use Rattle.txn_journal.specs.Texts.{stamped_text}
use Rattle.txn_journal.proofs.writer.write_stamped_entries.Given as goal

abbrev pub invariant-loop-i : goal.invariant-loop-i
invariant-loop-i l = string_bytes l.out ++ stamped_text l.version (l.i + 1) (drop l.i l.stamps) (drop l.i l.entries) ≡ string_bytes l.fn.out ++ stamped_text l.version 1 l.stamps l.entries
