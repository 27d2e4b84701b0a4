use Rattle.std.proofs.Common.{◌≡◌, ◌++◌, drop}
use Rattle.std.specs.String.{string_bytes}
use Rattle.txn_journal.specs.Texts.{changes_text}
use Rattle.txn_journal.proofs.writer.write_changes.Given as goal

abbrev pub invariant-loop-change : goal.invariant-loop-change
invariant-loop-change l = string_bytes l.out ++ changes_text (drop l.change-index l.changes) ≡ string_bytes l.fn.out ++ changes_text l.changes
