use Rattle.std.proofs.Common.{◌≡◌, ◌++◌, string_bytes}
use Rattle.std.specs.Prelude.{flat_map, codes}
use Rattle.replica_lines.specs.Status.{owned_word, owner_word}
use Rattle.replica_lines.proofs.replica_status.push_owners.Given as goal

abbrev pub invariant-loop-gtid : goal.invariant-loop-gtid
invariant-loop-gtid l = string_bytes l.out ++ flat_map (λ q. codes "," ++ owner_word q) l.gtid-iterator ≡ string_bytes l.fn.out ++ owned_word l.owners.entries
