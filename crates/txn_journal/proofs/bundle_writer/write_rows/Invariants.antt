use Rattle.std.proofs.Common.{◌≡◌, ◌++◌, drop}
use Rattle.std.specs.String.{string_bytes}
use Rattle.txn_journal.specs.Texts.{rows_text}
use Rattle.txn_journal.proofs.bundle_writer.write_rows.Given as goal

abbrev pub invariant-loop-row : goal.invariant-loop-row
invariant-loop-row l = string_bytes l.out ++ rows_text (drop l.row-index l.rows) ≡ string_bytes l.fn.out ++ rows_text l.rows
