use Rattle.std.proofs.Common.{◌≡◌}
use Rattle.std.specs.Vec.Iter.{into_iter_items}
use Rattle.derived_columns.specs.Entries.{derived_entries}
use Rattle.derived_columns.proofs.Each.{after}
use Rattle.derived_columns.proofs.derivation.Derivation.derive_entries.Given as goal

abbrev pub invariant-loop-entry : goal.invariant-loop-entry
invariant-loop-entry l = after l.derived.items (derived_entries l.self (into_iter_items l.entry-iterator)) ≡ derived_entries l.fn.self l.fn.entries.items
