use Rattle.std.proofs.Common.{◌≡◌, drop}
use Rattle.world.specs.Bundles.{beyond_opening}
use Rattle.audit.specs.Chains.{chains_of, visit_entries, out_of_entries}
use Rattle.audit.proofs.turns.out_of_entries.Given as goal

abbrev pub invariant-loop-entry : goal.invariant-loop-entry
invariant-loop-entry l = record {
  chains : visit_entries l.schema l.reader (beyond_opening l.opened (drop l.entry-index l.entries)) (chains_of l.chains.entries) ≡ visit_entries l.schema l.reader (beyond_opening l.opened l.entries) (chains_of l.initial.chains.entries);
  found : out_of_entries l.schema l.reader (beyond_opening l.opened (drop l.entry-index l.entries)) (chains_of l.chains.entries) ≡ out_of_entries l.schema l.reader (beyond_opening l.opened l.entries) (chains_of l.initial.chains.entries);
}
