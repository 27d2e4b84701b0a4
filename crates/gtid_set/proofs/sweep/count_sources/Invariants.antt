use Rattle.std.proofs.Common.{length, ◌≡◌, ◌+◌, ◌≤◌, true, ◌++◌}
use Rattle.std.specs.FinSet as set
use Rattle.gtid_set.specs.Sweep.{is_sorted, sources_in}
use Rattle.gtid_set.proofs.SourceLemmas.{besides, all_from}
use Rattle.gtid_set.proofs.sweep.count_sources.Given as goal

abbrev pub invariant-loop-span : goal.invariant-loop-span
invariant-loop-span l = record {
  left : is_sorted l.left ≡ true;
  right : is_sorted l.right ≡ true;
  left_from : all_from l.last l.left ≡ true;
  right_from : all_from l.last l.right ≡ true;
  bound : l.count + (length l.left + length l.right) ≤ length l.fn.left + length l.fn.right;
  count : l.count + set.len (besides l.last (sources_in (l.left ++ l.right))) ≡ set.len (sources_in (l.fn.left ++ l.fn.right));
}

abbrev pub decreases-loop-span : goal.decreases-loop-span
decreases-loop-span l = length l.left + length l.right
