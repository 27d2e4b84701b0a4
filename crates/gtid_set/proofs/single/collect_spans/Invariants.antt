use Rattle.std.proofs.Common.{length, ◌≡◌, ◌++◌}
use Rattle.gtid_set.proofs.single.collect_spans.Given as goal

abbrev pub invariant-loop-span : goal.invariant-loop-span
invariant-loop-span l = l.list.items ++ l.rest ≡ l.fn.spans

abbrev pub decreases-loop-span : goal.decreases-loop-span
decreases-loop-span l = length l.rest
