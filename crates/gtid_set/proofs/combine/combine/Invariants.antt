use Rattle.std.proofs.Common.{length, ◌≡◌, ◌+◌, true}
use Rattle.gtid_set.specs.Spans.{set_of, is_merged}
use Rattle.gtid_set.specs.BySource.{combination}
use Rattle.gtid_set.proofs.CombineLemmas.{IsMaking}
use Rattle.gtid_set.proofs.combine.combine.Given as goal

abbrev pub invariant-loop-id : goal.invariant-loop-id
invariant-loop-id l = record {
  left : is_merged l.left ≡ true;
  right : is_merged l.right ≡ true;
  making : IsMaking l.operation (combination l.operation (set_of l.fn.left) (set_of l.fn.right)) l.kept l.left l.right;
}

abbrev pub decreases-loop-id : goal.decreases-loop-id
decreases-loop-id l = length l.left + length l.right
