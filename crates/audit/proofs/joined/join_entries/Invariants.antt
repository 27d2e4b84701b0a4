use Rattle.std.proofs.Common.{◌≡◌, drop}
use Rattle.world.specs.Bundles.{beyond_opening}
use Rattle.audit.specs.Joined.{append_new}
use Rattle.audit.proofs.joined.join_entries.Given as goal

abbrev pub invariant-loop-entry : goal.invariant-loop-entry
invariant-loop-entry l = append_new l.order.entries (beyond_opening l.opened (drop l.entry-index l.entries)) ≡ append_new l.initial.order.entries (beyond_opening l.opened l.entries)
