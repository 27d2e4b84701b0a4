use Rattle.std.proofs.Common.{◌≡◌, drop}
use Rattle.audit.specs.Chains.{chains_of, visit_keys, out_of_keys}
use Rattle.audit.proofs.turns.out_of_keys.Given as goal

abbrev pub invariant-loop-key : goal.invariant-loop-key
invariant-loop-key l = record {
  chains : visit_keys l.reader l.gtid (drop l.key-index l.keys) (chains_of l.chains.entries) ≡ visit_keys l.reader l.gtid l.keys (chains_of l.initial.chains.entries);
  found : out_of_keys l.reader l.gtid (drop l.key-index l.keys) (chains_of l.chains.entries) ≡ out_of_keys l.reader l.gtid l.keys (chains_of l.initial.chains.entries);
}
