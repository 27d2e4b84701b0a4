use Rattle.std.proofs.Common.{length, ◌≡◌, ◌≤◌, ◌+◌, ◌*◌, true}
use Rattle.std.specs.Prelude.{sum_by}
use Rattle.gtid_set.specs.Spans.{is_merged}
use Rattle.gtid_set.specs.Sweep.{size_of}
use Rattle.gtid_set.proofs.single.count_numbers.Given as goal

abbrev pub invariant-loop-span : goal.invariant-loop-span
invariant-loop-span l = record {
  merged : is_merged l.rest ≡ true;
  bound : l.count + 18446744073709551616 * length l.rest ≤ 18446744073709551616 * length l.fn.spans;
  sum : l.count + sum_by size_of l.rest ≡ sum_by size_of l.fn.spans;
}

abbrev pub decreases-loop-span : goal.decreases-loop-span
decreases-loop-span l = length l.rest
