use Rattle.std.proofs.Common.{◌≡◌, length}
use Rattle.network.specs.Nodes.{ids_distinct}
use Rattle.replica_script.proofs.DistinctSources.{are_new_to, seen_in}
use Rattle.replica_script.proofs.declaration.are_distinct.Given as goal

abbrev pub invariant-loop-own : goal.invariant-loop-own
invariant-loop-own l = are_new_to (seen_in l.seen.keys) l.left ≡ ids_distinct l.ids

abbrev pub decreases-loop-own : goal.decreases-loop-own
decreases-loop-own l = length l.left
