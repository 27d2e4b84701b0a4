use Rattle.std.proofs.Common.{◌≡◌, ◌++◌, drop}
use Rattle.std.specs.String.{string_bytes}
use Rattle.txn_journal.specs.Texts.{assumptions_text}
use Rattle.txn_journal.proofs.bundle_writer.write_assumptions.Given as goal

abbrev pub invariant-loop-assumption : goal.invariant-loop-assumption
invariant-loop-assumption l = string_bytes l.out ++ assumptions_text (drop l.assumption-index l.assumptions) ≡ string_bytes l.fn.out ++ assumptions_text l.assumptions
