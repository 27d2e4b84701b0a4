use Rattle.std.proofs.Common.{◌≡◌, ◌++◌, drop}
use Rattle.std.specs.String.{string_bytes}
use Rattle.txn_journal.specs.Texts.{uniques_text}
use Rattle.txn_journal.proofs.bundle_writer.write_uniques.Given as goal

abbrev pub invariant-loop-columns : goal.invariant-loop-columns
invariant-loop-columns l = string_bytes l.out ++ uniques_text (drop l.columns-index l.uniques) ≡ string_bytes l.fn.out ++ uniques_text l.uniques
