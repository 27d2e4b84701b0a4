use Rattle.std.proofs.Common.{◌≡◌, ◌++◌, drop}
use Rattle.std.specs.String.{string_bytes}
use Rattle.txn_journal.specs.Texts.{tables_text}
use Rattle.txn_journal.proofs.bundle_writer.write_tables.Given as goal

abbrev pub invariant-loop-table : goal.invariant-loop-table
invariant-loop-table l = string_bytes l.out ++ tables_text (drop l.table-index l.tables) ≡ string_bytes l.fn.out ++ tables_text l.tables
