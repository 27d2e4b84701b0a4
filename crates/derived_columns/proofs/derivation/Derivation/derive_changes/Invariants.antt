use Rattle.std.proofs.Common.{◌≡◌, drop}
use Rattle.derived_columns.specs.Entries.{derived_changes}
use Rattle.derived_columns.proofs.Each.{after}
use Rattle.derived_columns.proofs.derivation.Derivation.derive_changes.Given as goal

abbrev pub invariant-loop-change : goal.invariant-loop-change
invariant-loop-change l = after l.derived.items (derived_changes l.self (drop l.change-index l.changes)) ≡ derived_changes l.self l.changes
