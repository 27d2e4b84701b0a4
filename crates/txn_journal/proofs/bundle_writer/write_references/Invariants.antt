use Rattle.std.proofs.Common.{◌≡◌, ◌++◌, drop}
use Rattle.std.specs.String.{string_bytes}
use Rattle.txn_journal.specs.Texts.{references_text}
use Rattle.txn_journal.proofs.bundle_writer.write_references.Given as goal

abbrev pub invariant-loop-reference : goal.invariant-loop-reference
invariant-loop-reference l = string_bytes l.out ++ references_text (drop l.reference-index l.references) ≡ string_bytes l.fn.out ++ references_text l.references
