use Rattle.std.proofs.Common.{◌≡◌, ◌++◌, drop}
use Rattle.std.specs.String.{string_bytes}
use Rattle.txn_journal.specs.Texts.{entries_text}
use Rattle.txn_journal.proofs.writer.write_entries.Given as goal

abbrev pub invariant-loop-entry : goal.invariant-loop-entry
invariant-loop-entry l = string_bytes l.out ++ entries_text (drop l.entry-index l.entries) ≡ string_bytes l.fn.out ++ entries_text l.entries
