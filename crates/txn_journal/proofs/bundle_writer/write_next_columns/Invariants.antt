use Rattle.std.proofs.Common.{◌≡◌, ◌++◌, drop}
use Rattle.std.specs.String.{string_bytes}
use Rattle.txn_journal.specs.Texts.{columns_behind}
use Rattle.txn_journal.proofs.bundle_writer.write_next_columns.Given as goal

abbrev pub invariant-loop-column : goal.invariant-loop-column
invariant-loop-column l = string_bytes l.out ++ columns_behind (drop l.column-index l.columns) ≡ string_bytes l.fn.out ++ columns_behind l.columns
