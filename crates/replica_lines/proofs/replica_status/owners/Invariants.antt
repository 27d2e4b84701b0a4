use Rattle.std.proofs.Common.{◌≡◌, take, drop, length}
use Rattle.std.specs.FinMap.{entries}
use Rattle.replica_lines.specs.Status.{owners_of}
use Rattle.replica_lines.proofs.replica_status.owners.Given as goal

abbrev pub invariant-loop-left : goal.invariant-loop-left
invariant-loop-left l = record {
  front : l.left ≡ take (length l.left) l.owned;
  put : l.owners.entries ≡ entries (owners_of (drop (length l.left) l.owned));
}

abbrev pub decreases-loop-left : goal.decreases-loop-left
decreases-loop-left l = length l.left
