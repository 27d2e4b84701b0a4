use Rattle.std.proofs.Common.{◌≡◌, drop}
use Rattle.fault_places.specs.Differences.{changes_under}
use Rattle.fault_places.proofs.unequal.changes_under.Given as goal

abbrev pub invariant-loop-entry : goal.invariant-loop-entry
invariant-loop-entry l = changes_under l.gtid (drop l.entry-index l.entries) ≡ changes_under l.gtid l.entries
