use Rattle.std.proofs.Common.{length}
use Rattle.std.specs.List.{AllByRecursion}
use Rattle.gtid_set.specs.Sweep.{HasSource}
use Rattle.gtid_set.proofs.single.sources_fit.Given as goal

abbrev pub invariant-loop-span : goal.invariant-loop-span
invariant-loop-span l = AllByRecursion HasSource l.rest → AllByRecursion HasSource l.fn.spans

abbrev pub decreases-loop-span : goal.decreases-loop-span
decreases-loop-span l = length l.rest
