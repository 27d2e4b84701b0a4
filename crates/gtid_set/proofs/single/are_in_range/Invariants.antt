use Rattle.std.proofs.Common.{length, ◌≡◌}
use Rattle.std.specs.List.{list_all}
use Rattle.gtid_set.specs.Sweep.{is_in_range}
use Rattle.gtid_set.proofs.single.are_in_range.Given as goal

abbrev pub invariant-loop-span : goal.invariant-loop-span
invariant-loop-span l = list_all is_in_range l.rest ≡ list_all is_in_range l.fn.spans

abbrev pub decreases-loop-span : goal.decreases-loop-span
decreases-loop-span l = length l.rest
